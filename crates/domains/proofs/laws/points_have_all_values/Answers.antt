use Rattle.domains.proofs.PointsOfDomains.{length_of_points, length_of_points_in}
use Rattle.domains.proofs.laws.points_have_all_values.Goals as goal

pub returns-clause-domains : goal.returns-clause-domains
returns-clause-domains c = length_of_points

pub returns-clause-boxes : goal.returns-clause-boxes
returns-clause-boxes c = length_of_points_in
