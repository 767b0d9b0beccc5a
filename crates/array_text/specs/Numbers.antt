-- The numbers that words write.
-- Used in this crate alone.
use Rattle.std.specs.Prelude.{ℕ, ◌+◌, ◌-◌, ◌*◌, ◌==◌, ◌&&◌, nat_le, List, [], ◌∷◌, length, ℤ, pos, neg_ℤ, Option, Some, None, option_map, option_and_then, if◌then◌else◌, bytes_eq, codes}
use Rattle.cells.specs.Cells.{empty_cell}
use Rattle.cells.specs.declared.cell.Cell.{Cell}

-- the value of a digit
abbrev pub digit_of : ℕ → Option ℕ
digit_of b = if nat_le 48 b && nat_le b 57 then Some (b - 48) else None

-- the number that digits write after the digits of n; `None` if a byte is not a digit
unfoldable pub digits_from : ℕ → List ℕ → Option ℕ
digits_from n [] = Some n
digits_from n (b ∷ bs) = option_and_then (λ d. digits_from (10 * n + d) bs) (digit_of b)

-- the number that 1 to 10 digits write
unfoldable pub number_written : List ℕ → Option ℕ
number_written w = if nat_le 1 (length w) && nat_le (length w) 10 then digits_from 0 w else None

-- a number that is not above the most
abbrev pub up_to : ℕ → ℕ → Option ℕ
up_to most n = if nat_le n most then Some n else None

-- the number that a word writes, if it is at most the greatest allowed
abbrev pub number_up_to : ℕ → List ℕ → Option ℕ
number_up_to most w = option_and_then (up_to most) (number_written w)

-- the number of a layout that a word writes: below 2^32
abbrev pub layout_number : List ℕ → Option ℕ
layout_number w = number_up_to 4294967295 w

-- how far a cell's number is from 0, as a word writes it: below 2^31
abbrev pub cell_number : List ℕ → Option ℕ
cell_number w = number_up_to 2147483647 w

-- a stored number as a cell
abbrev pub stored : ℤ → Cell
stored z = record { 0 = z }

-- the cell whose number the digits of a word write
abbrev pub positive_cell : List ℕ → Option Cell
positive_cell w = option_map (λ n. stored (pos n)) (cell_number w)

-- the same below 0
abbrev pub negative_cell : List ℕ → Option Cell
negative_cell w = option_map (λ n. stored (neg_ℤ (pos n))) (cell_number w)

-- the cell whose number a word writes, with `-` before it if it is below 0
abbrev pub number_cell : List ℕ → Option Cell
number_cell [] = None
number_cell (b ∷ bs) = if b == 45 then negative_cell bs else positive_cell (b ∷ bs)

-- the cell that a word writes: `.` for the empty one, or its number
unfoldable pub cell_of : List ℕ → Option Cell
cell_of w = if bytes_eq w (codes ".") then Some empty_cell else number_cell w
