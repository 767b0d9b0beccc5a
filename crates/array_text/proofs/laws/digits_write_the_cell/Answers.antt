use Rattle.array_text.proofs.WrittenNumbers.{cell_of-decimal}
use Rattle.array_text.proofs.laws.digits_write_the_cell.Goals as goal

pub returns : goal.returns
returns c = cell_of-decimal
