-- The array file of a layout and its cells.
-- Used by what writes array files, and by the laws.
use Rattle.std.specs.Prelude.{ℕ, List, ◌++◌}
use Rattle.std.specs.List.{flat_map, range_with_len}
use Rattle.std.specs.Int.{cast_unsigned}
use mir.Syntax.{w32}
use Rattle.byteorder.specs.Endian.{little_bytes}
use Rattle.layouts.specs.declared.numbers.LayoutNumbers.{LayoutNumbers}
use Rattle.layouts.specs.Chunks.{chunk_count}
use Rattle.chunk_copies.specs.Placing.{chunk_of_cells}
use Rattle.cells.specs.declared.cell.Cell.{Cell}
use Rattle.array_file.specs.Header.{header_of}

-- the four bytes of a cell, the lowest first
abbrev pub bytes_of_cell : Cell → List ℕ
bytes_of_cell cell = little_bytes 4 (cast_unsigned w32 cell.0)

-- the bytes of cells, one after the other
unfoldable pub bytes_of_cells : List Cell → List ℕ
bytes_of_cells cells = flat_map bytes_of_cell cells

-- the bytes of the first n chunks of an array with these cells; a chunk that extends past the end of the array has empty cells there
unfoldable pub bytes_of_chunks : LayoutNumbers → List Cell → ℕ → List ℕ
bytes_of_chunks l cells n = flat_map (λ m. bytes_of_cells (chunk_of_cells l cells m)) (range_with_len 0 n)

-- the bytes of the array file of a layout with these cells, whose padding is empty
unfoldable pub array_bytes : LayoutNumbers → List Cell → List ℕ
array_bytes l cells = header_of l ++ bytes_of_chunks l cells (chunk_count l)
