use Rattle.array_text.proofs.ReadArrays.{stated_array-state}
use Rattle.array_text.proofs.laws.what_is_read_is_stated.Goals as goal

pub returns : goal.returns
returns c = stated_array-state c.rules_make_a_layout.ensures
