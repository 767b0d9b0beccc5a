use Rattle.domains.proofs.Within.{within_if_points, points_kept}
use Rattle.domains.proofs.laws.boxes_within_have_points_within.Goals as goal

pub returns-clause-each : goal.returns-clause-each
returns-clause-each c = λ a b box. within_if_points a b box.values

pub returns-clause-order : goal.returns-clause-order
returns-clause-order c = points_kept
