use Rattle.chunk_store.proofs.Pieces.{asks_wider, asks_none, asks_of_pieces}
use Rattle.chunk_store.proofs.laws.reads_in_pieces.Goals as goal

pub returns : goal.returns
returns c = record { wider = asks_wider; none = asks_none; rise = asks_of_pieces }
