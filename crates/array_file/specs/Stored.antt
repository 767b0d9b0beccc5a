-- The array that an accepted file holds.
-- Used by `chunk_store` and `search_run`, and in this crate.
use Rattle.std.specs.Prelude.{◌≡◌, ℕ, ◌+◌, ◌*◌, List, length, take, drop, map, ℤ, Option, Some, None}
use Rattle.std.specs.List.{range_with_len}
use Rattle.std.specs.Int.{cast_signed}
use mir.Syntax.{w32}
use Rattle.byteorder.specs.Endian.{little_number}
use Rattle.lists.specs.Numbers.{product}
use Rattle.cells.specs.Array.{Array}
use Rattle.cells.specs.Cells.{cell_value, array_of}
use Rattle.layouts.specs.declared.numbers.LayoutNumbers.{LayoutNumbers}
use Rattle.layouts.specs.Chunks.{chunk_cells, cell_chunk, cell_index}
use Rattle.cells.specs.declared.cell.Cell.{Cell}
use Rattle.array_file.specs.declared.refusal.FileRefusal.{FileRefusal}
use Rattle.array_file.specs.Header.{layout_refusal, stored_layout}

-- the cell in the four bytes from an offset on
unfoldable pub cell_at : List ℕ → ℕ → Cell
cell_at bytes at = record { 0 = cast_signed w32 (little_number 4 (drop at bytes)) }

-- the offset at which a chunk begins
abbrev pub chunk_start : LayoutNumbers → ℕ → ℕ
chunk_start l n = 96 + 4 * chunk_cells l * n

-- the offset of the k-th cell
abbrev pub cell_start : LayoutNumbers → ℕ → ℕ
cell_start l k = chunk_start l (cell_chunk l k) + 4 * cell_index l k

-- the cells of a file of this layout, in row-major order
abbrev pub stored_cells : LayoutNumbers → List ℕ → List (Option ℤ)
stored_cells l bytes = map (λ k. cell_value (cell_at bytes (cell_start l k))) (range_with_len 0 (product l.extents))

-- these are the cells of the file, if its bytes are told
abbrev pub HoldsCells : Option (List ℕ) → LayoutNumbers → List Cell → Type 0
HoldsCells None l cells = length cells ≡ product l.extents
HoldsCells (Some bytes) l cells = map cell_value cells ≡ stored_cells l bytes

-- the refusal of a file with these bytes
abbrev pub refusal_of : List ℕ → Option FileRefusal
refusal_of bytes = layout_refusal (take 96 bytes) (length bytes)

-- the array that a file with these bytes holds, if it is not refused
abbrev pub stored_array : List ℕ → Array
stored_array bytes = let l = stored_layout (take 96 bytes) in record { rank = l.rank; extents = l.extents; cells = stored_cells l bytes }

-- if the layout is the one that the file's header states, these cells are the array that the file holds, if its bytes are told
abbrev pub MakesArray : Option (List ℕ) → LayoutNumbers → List Cell → Type 0
MakesArray None l cells = Unit {0}
MakesArray (Some bytes) l cells = l ≡ stored_layout (take 96 bytes) → array_of l.rank l.extents cells ≡ stored_array bytes
