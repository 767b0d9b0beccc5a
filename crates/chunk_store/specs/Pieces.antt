-- The reads that a load makes: offsets and lengths, where they are told.
-- Used in this crate and by `search_run`.
use Rattle.std.specs.Prelude.{◌≡◌, ℕ, ◌+◌, ◌*◌, ◌<◌, ◌≤◌, List, [], ◌∷◌, ◌++◌, Option, Some, None}
use Rattle.layouts.specs.declared.numbers.LayoutNumbers.{LayoutNumbers}
use Rattle.layouts.specs.Chunks.{chunk_cells}
use Rattle.array_file.specs.Stored.{chunk_start}

-- reads of 1 to 4,096 bytes, each of which lies within the offsets from a up to b and begins after the one before
abbrev pub Pieces : ℕ → ℕ → List (ℕ × ℕ) → Type 0
Pieces a b [] = Unit {0}
Pieces a b (r ∷ rs) = (a ≤ r.0) × (0 < r.1) × (r.1 ≤ 4096) × (r.0 + r.1 ≤ b) × Pieces (r.0 + 1) b rs

-- such reads were added to the record, if it is told
abbrev pub AsksPieces : Option (List (ℕ × ℕ)) → Option (List (ℕ × ℕ)) → ℕ → ℕ → Type 0
AsksPieces None new a b = new ≡ None
AsksPieces (Some old) new a b = (more : List (ℕ × ℕ)) × (new ≡ Some (old ++ more)) × Pieces a b more

-- the offset at which chunk n ends
abbrev pub chunk_end : LayoutNumbers → ℕ → ℕ
chunk_end l n = chunk_start l n + 4 * chunk_cells l
