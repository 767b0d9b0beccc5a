use Rattle.chunk_store.proofs.Held.{held_cell}
use Rattle.chunk_store.proofs.laws.loaded_chunk_holds_its_cells.Goals as goal

pub returns : goal.returns
returns c = held_cell
