use Rattle.domains.proofs.StripPoints.{strips_points, strips_order, strips_boxes}
use Rattle.domains.proofs.laws.strips_share_out.Goals as goal

pub returns-clause-points : goal.returns-clause-points
returns-clause-points c = λ b asked h some. strips_points b asked h.values some

pub returns-clause-order : goal.returns-clause-order
returns-clause-order c = λ b asked i j h less below. strips_order b asked i j h.values less below

pub returns-clause-boxes : goal.returns-clause-boxes
returns-clause-boxes c = strips_boxes
