use Rattle.query_model.proofs.Solutions.{halves-solutions}
use Rattle.query_model.proofs.laws.halves_share_out_the_solutions.Goals as goal

pub returns : goal.returns
returns c = halves-solutions c.halves_share_out.ensures
