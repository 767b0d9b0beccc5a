use Rattle.chunk_copies.proofs.Takings.{taken_cell}
use Rattle.chunk_copies.proofs.laws.taken_chunks_have_each_cell.Goals as goal

pub returns : goal.returns
returns c = taken_cell
