use Rattle.array_text.proofs.WrittenNumbers.{layout_number-decimal}
use Rattle.array_text.proofs.laws.digits_write_the_number.Goals as goal

pub returns : goal.returns
returns c = layout_number-decimal
