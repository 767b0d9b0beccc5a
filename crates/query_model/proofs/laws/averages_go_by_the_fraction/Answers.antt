use Rattle.query_model.proofs.Comparing.{average-scaled}
use Rattle.query_model.proofs.laws.averages_go_by_the_fraction.Goals as goal

pub returns : goal.returns
returns c = average-scaled
