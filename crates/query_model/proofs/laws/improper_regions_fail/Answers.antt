use Rattle.query_model.proofs.Comparing.{improper_fails}
use Rattle.query_model.proofs.laws.improper_regions_fail.Goals as goal

pub returns : goal.returns
returns c = improper_fails
