use Rattle.query_model.proofs.Comparing.{undefined_fails}
use Rattle.query_model.proofs.laws.undefined_aggregates_fail.Goals as goal

pub returns : goal.returns
returns c = undefined_fails
