use Rattle.domains.proofs.PointCounts.{length-points_of, length_in}
use Rattle.domains.proofs.laws.points_are_counted.Goals as goal

pub returns-clause-domains : goal.returns-clause-domains
returns-clause-domains c = length-points_of

pub returns-clause-boxes : goal.returns-clause-boxes
returns-clause-boxes c = length_in
