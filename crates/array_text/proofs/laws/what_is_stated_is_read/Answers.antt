use Rattle.array_text.proofs.StatedArrays.{stated_array-is}
use Rattle.array_text.proofs.laws.what_is_stated_is_read.Goals as goal

pub returns : goal.returns
returns c = stated_array-is
