use Rattle.domains.proofs.Halves.{contains_in_box, contains_in_points}
use Rattle.domains.proofs.laws.points_are_in_box.Goals as goal

pub returns-clause-domains : goal.returns-clause-domains
returns-clause-domains c = contains_in_points

pub returns-clause-boxes : goal.returns-clause-boxes
returns-clause-boxes c = contains_in_box
