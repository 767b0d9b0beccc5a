-- Boxes of cells that are copied from one list to another, each list row-major.
-- Used in this crate alone.
use Rattle.std.specs.Prelude.{◌≡◌, ℕ, ◌+◌, ◌-◌, ◌*◌, ◌/◌, ◌%◌, ◌<◌, ◌≤◌, nat_le, nat_lt, Bool, true, false, ◌&&◌, List, [], ◌∷◌, length, map, slice_index_or}
use Rattle.lists.specs.Numbers.{product}
use Rattle.cells.specs.declared.cell.Cell.{Cell}
use Rattle.chunk_copies.specs.declared.boxes.Stretch.{Stretch}

-- how many cells the list has from which a box is copied
abbrev pub source_size : List Stretch → ℕ
source_size ss = product (map (λ s. s.source) ss)

-- how many cells the list has to which it is copied
abbrev pub target_size : List Stretch → ℕ
target_size ss = product (map (λ s. s.target) ss)

-- a place of the second list lies in the box
abbrev pub is_copied : List Stretch → ℕ → Bool
is_copied [] k = true
is_copied (s ∷ ss) k =
    (nat_le s.to (k / target_size ss) && nat_lt (k / target_size ss) (s.to + s.count)) && is_copied ss (k % target_size ss)

-- the place in the first list of the cell for such a place
abbrev pub source_index : List Stretch → ℕ → ℕ
source_index [] k = 0
source_index (s ∷ ss) k = (s.from + (k / target_size ss - s.to)) * source_size ss + source_index ss (k % target_size ss)

-- a stretch is within both lists
abbrev pub IsWithinBoth : Stretch → Type 0
IsWithinBoth s = (s.from + s.count ≤ s.source) × (s.to + s.count ≤ s.target)

-- the box is copied, and all other cells stay
pub record CopiesBox (ss : List Stretch) (source old new : List Cell) : Type 0 where
  pub long : length new ≡ length old
  pub copied : (k : ℕ) (d : Cell) → k < length old → is_copied ss k ≡ true → slice_index_or new k d ≡ slice_index_or source (source_index ss k) d
  pub kept : (k : ℕ) (d : Cell) → k < length old → is_copied ss k ≡ false → slice_index_or new k d ≡ slice_index_or old k d
