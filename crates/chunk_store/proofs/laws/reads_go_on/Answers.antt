use Rattle.chunk_store.proofs.Pieces.{asks_after}
use Rattle.chunk_store.proofs.laws.reads_go_on.Goals as goal

pub returns : goal.returns
returns c = asks_after
