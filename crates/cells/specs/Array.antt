-- Arrays of cells, and the cells of a region. No chunks and no padding.
-- Used by `cell_fold`, `query_model`, `array_file`, `chunk_store` and `search_run`, and in this crate.
use Rattle.std.specs.Prelude.{ℕ, Bool, true, false, ◌&&◌, List, [], ◌∷◌, length, map, ℤ, pos, int_le, int_lt, Option, filter, filter_map, slice_get, option_and_then}
use Rattle.std.specs.List.{range_with_len}
use Rattle.grids.specs.Coordinates.{coordinates_of, pass_each}
use Rattle.cells.specs.declared.side.Side.{Side}

-- an array: its rank, its extents, and its cells in row-major order, the last dimension fastest. A cell is a number or empty
pub record Array : Type 0 where
  pub rank : ℕ
  pub extents : List ℕ
  pub cells : List (Option ℤ)

-- a coordinate is within a side
abbrev pub is_within : Side → ℕ → Bool
is_within s c = int_le s.from (pos c) && int_lt (pos c) s.to

-- each coordinate is within its side
abbrev pub lies_in : List Side → List ℕ → Bool
lies_in sides at = pass_each (map is_within sides) at

-- the places of a region, cut to the array: the indices of its cells, in order
abbrev pub places_of : Array → List Side → List ℕ
places_of a sides = filter (λ k. lies_in sides (coordinates_of a.extents k)) (range_with_len 0 (length a.cells))

-- the number at a place, if its cell is not empty
abbrev pub number_at : Array → ℕ → Option ℤ
number_at a k = option_and_then (λ c. c) (slice_get a.cells k)

-- the numbers at the places of a region
abbrev pub present_cells : Array → List Side → List ℤ
present_cells a sides = filter_map (number_at a) (places_of a sides)

-- a side has a coordinate, and all its coordinates are within the extent
abbrev pub fits : ℕ → Side → Bool
fits n s = int_le (pos 0) s.from && int_lt s.from s.to && int_le s.to (pos n)

-- a region has a cell, and all its cells are within the array
abbrev pub is_proper : List ℕ → List Side → Bool
is_proper [] [] = true
is_proper [] (s ∷ ss) = false
is_proper (n ∷ ns) [] = false
is_proper (n ∷ ns) (s ∷ ss) = fits n s && is_proper ns ss
