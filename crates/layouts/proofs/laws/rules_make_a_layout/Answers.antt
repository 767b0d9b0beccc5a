use Rattle.layouts.proofs.Layouts.{is_layout}
use Rattle.layouts.proofs.laws.rules_make_a_layout.Goals as goal

pub returns : goal.returns
returns c = is_layout
