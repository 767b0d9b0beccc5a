use Rattle.array_file.proofs.Files.{stored_array-array_bytes}
use Rattle.array_file.proofs.laws.written_array_is_stored.Goals as goal

pub returns : goal.returns
returns c = stored_array-array_bytes c.taken_chunks_have_each_cell.ensures
