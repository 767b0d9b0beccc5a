use Rattle.query_model.proofs.Solutions.{strips-solutions}
use Rattle.query_model.proofs.laws.strips_share_out_the_solutions.Goals as goal

pub returns : goal.returns
returns c = strips-solutions c.strips_share_out.ensures.points
