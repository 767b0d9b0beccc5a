-- Rectangles of cells, by their ends, and as regions.
-- Used by `layouts`, and in this crate.
use Rattle.std.specs.Prelude.{◌≡◌, ℕ, ◌-◌, min, max, ℤ, pos, negsuc, Bool, true, List, length, map, zip}
use Rattle.lists.specs.Numbers.{product}
use Rattle.grids.specs.Ends.{is_between_ends}
use Rattle.cells.specs.declared.rect.Rect.{Rect}
use Rattle.cells.specs.declared.side.Side.{Side}

-- the cell with these coordinates lies in a rectangle
abbrev pub rect_contains : Rect → List ℕ → Bool
rect_contains r at = is_between_ends r.from r.to at

-- it is a rectangle in so many dimensions
abbrev pub HasDimensions : ℕ → Rect → Type 0
HasDimensions d r = (length r.from ≡ d) × (length r.to ≡ d)

-- how many cells a rectangle has
abbrev pub area_of : Rect → ℕ
area_of r = product (map (λ (f, t). t - f) (zip r.from r.to))

-- the intersection of two rectangles
abbrev pub meet_of : Rect → Rect → Rect
meet_of r s = record {
  from = map (λ (f, g). max f g) (zip r.from s.from);
  to = map (λ (t, u). min t u) (zip r.to s.to);
}

-- the rectangle of all cells of these extents
abbrev pub whole_of : List ℕ → Rect
whole_of extents = record { from = map (λ _. 0) extents; to = extents }

-- a rectangle as a region: its side in each dimension
abbrev pub sides_of : Rect → List Side
sides_of r = map (λ (f, t). record { from = pos f; to = pos t }) (zip r.from r.to)

-- the nearest coordinate from 0 to n
abbrev pub nearest : ℕ → ℤ → ℕ
nearest n (pos c) = min n c
nearest n (negsuc c) = 0

-- a region that is cut to the array of these extents, as a rectangle
abbrev pub rect_of : List ℕ → List Side → Rect
rect_of extents sides = record {
  from = map (λ (n, s). nearest n s.from) (zip extents sides);
  to = map (λ (n, s). nearest n s.to) (zip extents sides);
}

-- a rectangle lies within the array of these extents: cutting it to them leaves it unchanged
abbrev pub IsCutTo : List ℕ → Rect → Type 0
IsCutTo extents r = meet_of r (whole_of extents) ≡ r

-- all cells of the one lie in the other
abbrev pub LiesInside : Rect → Rect → Type 0
LiesInside r s = (at : List ℕ) → rect_contains r at ≡ true → rect_contains s at ≡ true
