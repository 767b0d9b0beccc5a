use Rattle.std.proofs.Common.{arith}
use Rattle.chunk_store.proofs.laws.chunks_follow_each_other.Goals as goal

pub returns : goal.returns
returns c = record { first = λ l. grind arith; next = λ l n. grind arith; last = λ l. grind arith }
