use Rattle.domains.proofs.Within.{tests_in_box}
use Rattle.domains.proofs.laws.points_in_box_are_tested.Goals as goal

pub returns : goal.returns
returns c = tests_in_box
