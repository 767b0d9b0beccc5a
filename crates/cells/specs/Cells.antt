-- Stored cells as numbers, and arrays of them.
-- Used by `cell_fold`, `chunk_copies`, `plain_enum`, `array_text`, `array_file`, `chunk_store` and `search_run`, and in this crate.
use Rattle.std.specs.Prelude.{ℕ, cond, List, ℤ, negsuc, Option, Some, None, map}
use Rattle.std.specs.Ordering.{int_eq}
use Rattle.cells.specs.declared.cell.Cell.{Cell}
use Rattle.cells.specs.Array.{Array}

-- the number of a cell; `None` if -2^31 is stored
abbrev pub cell_value : Cell → Option ℤ
cell_value c = cond (int_eq c.0 (negsuc 2147483647)) None (Some c.0)

-- the array of this rank and these extents with these cells
abbrev pub array_of : ℕ → List ℕ → List Cell → Array
array_of rank extents cells = record { rank = rank; extents = extents; cells = map cell_value cells }

-- the empty cell
abbrev pub empty_cell : Cell
empty_cell = record { 0 = negsuc 2147483647 }
