-- Cells as numbers from 0 on, and summaries of such numbers in lanes.
-- Used in this crate alone.
use Rattle.std.specs.Prelude.{ℕ, ◌≡◌, ◌+◌, ◌-◌, ◌%◌, ◌/◌, ◌^◌, max, min, ◌+ℤ◌, pos, unsigned_abs, List, [], ◌∷◌, map}
use Rattle.std.specs.List.{flat_map}
use Rattle.std.specs.Simd.Lanes.{sum_l}
use Rattle.cells.specs.declared.cell.Cell.{Cell}
use Rattle.cell_fold.specs.declared.lanes.LaneSum.{LaneSum}
use Rattle.cell_fold.specs.declared.lanes.Lanes.{Lanes}
use Rattle.cell_fold.specs.declared.lanes.PresentLanes.{PresentLanes}

-- how far a cell is above -2^31: 0 for an empty cell
abbrev pub biased : Cell → ℕ
biased c = unsigned_abs (c.0 +ℤ pos (2 ^ 31))

-- one less; 2^32 - 1 for 0
abbrev pub lowered : ℕ → ℕ
lowered n = (n + (2 ^ 32 - 1)) % 2 ^ 32

-- the upper half of 32 bits, as a number
abbrev pub upper_half : ℕ → ℕ
upper_half n = n / 2 ^ 16

-- the largest, 0 if there is none
abbrev pub greatest_of_lanes : List ℕ → ℕ
greatest_of_lanes [] = 0
greatest_of_lanes (n ∷ ns) = max n (greatest_of_lanes ns)

-- the smallest, 2^32 - 1 if there is none
abbrev pub least_of_lanes : List ℕ → ℕ
least_of_lanes [] = 2 ^ 32 - 1
least_of_lanes (n ∷ ns) = min n (least_of_lanes ns)

-- the cells of all these eights
abbrev pub cells_of_eights : List (List Cell) → List Cell
cells_of_eights eights = flat_map (λ eight. eight) eights

-- the sum of these numbers: its lower 32 bits, and the sum of the upper halves
pub record AddsUp (sum : LaneSum) (ns : List ℕ) : Type 0 where
  pub low : sum_l sum.low % 2 ^ 32 ≡ sum_l ns % 2 ^ 32
  pub halves : sum_l sum.halves ≡ sum_l (map upper_half ns)

-- these lanes sum up the biased cells ns
pub record SumsUp (lanes : Lanes) (ns : List ℕ) : Type 0 where
  pub least : least_of_lanes lanes.least ≡ least_of_lanes (map lowered ns)
  pub greatest : greatest_of_lanes lanes.greatest ≡ greatest_of_lanes ns
  pub count : sum_l lanes.count ≡ sum_l (map (λ n. min n 1) ns)
  pub sum : AddsUp lanes.sum ns

-- these lanes sum up the biased cells ns, under the assumption that none of them is empty
pub record SumsUpPresent (lanes : PresentLanes) (ns : List ℕ) : Type 0 where
  pub least : least_of_lanes lanes.least ≡ least_of_lanes ns
  pub greatest : greatest_of_lanes lanes.greatest ≡ greatest_of_lanes ns
  pub sum : AddsUp lanes.sum ns
