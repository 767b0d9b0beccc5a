-- What a loop that loads one chunk after the other keeps: its reads are those of the first chunks.
-- Used by the proofs of `add_chunks` and `add_records`.
use Rattle.std.proofs.Common.{◌≡◌, ℕ, ◌+◌, ◌<◌, List, Option, subst, arith}
use Rattle.layouts.specs.Chunks.{chunk_count}
use Rattle.layouts.specs.declared.numbers.LayoutNumbers.{LayoutNumbers}
use Rattle.array_file.specs.Header.{file_size}
use Rattle.array_file.specs.Stored.{chunk_start}
use Rattle.chunk_store.specs.Pieces.{AsksPieces, chunk_end}
use Rattle.chunk_store.proofs.Pieces.{asks_after, asks_wider}
use Rattle.chunk_store.proofs.Placed.{starts_after_header, next_begins, ends_within}

-- the reads of the first n chunks, and then those of the next one
pub one_more_asked : (l : LayoutNumbers) (n : ℕ) (old mid new : Option (List (ℕ × ℕ))) → AsksPieces old mid 96 (chunk_start l n) → AsksPieces mid new (chunk_start l n) (chunk_end l n)
    → AsksPieces old new 96 (chunk_start l (n + 1))
one_more_asked l n old mid new before next =
    subst (AsksPieces old new 96) (next_begins l n) (asks_after old mid new 96 (chunk_start l n) (chunk_end l n) (starts_after_header l n) (omega arith) before next)

-- if the next chunk is not read whole, only bytes of the file were asked for
pub stopped_within : (l : LayoutNumbers) (n : ℕ) (old mid new : Option (List (ℕ × ℕ))) → n < chunk_count l → AsksPieces old mid 96 (chunk_start l n)
    → AsksPieces mid new (chunk_start l n) (chunk_end l n) → AsksPieces old new 96 (file_size l)
stopped_within l n old mid new below before next =
    asks_wider old new 96 96 (chunk_end l n) (file_size l) (omega arith) (ends_within l n below)
    (asks_after old mid new 96 (chunk_start l n) (chunk_end l n) (starts_after_header l n) (omega arith) before next)

pub all_asked : (l : LayoutNumbers) (n : ℕ) (old new : Option (List (ℕ × ℕ))) → n ≡ chunk_count l → AsksPieces old new 96 (chunk_start l n) → AsksPieces old new 96 (file_size l)
all_asked l n old new all asked = subst (λ m. AsksPieces old new 96 (chunk_start l m)) all asked
