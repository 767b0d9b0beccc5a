use Rattle.query_model.proofs.Solutions.{within-solutions}
use Rattle.query_model.proofs.laws.boxes_within_have_solutions_within.Goals as goal

pub returns : goal.returns
returns c = within-solutions c.boxes_within_have_points_within.ensures.order
