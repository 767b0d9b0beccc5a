use Rattle.chunk_store.proofs.FirstChunks.{length-places-more, length-places-le}
use Rattle.chunk_store.proofs.laws.chunks_share_no_cell.Goals as goal

pub returns : goal.returns
returns c = record { next = length-places-more; few = length-places-le }
