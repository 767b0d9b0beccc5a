-- The cells of chunks, and their places among the cells of the array.
-- Used by `array_file` and `chunk_store`, and in this crate.
use Rattle.std.specs.Prelude.{◌≡◌, ◌≢◌, ℕ, ◌+◌, ◌<◌, ◌≤◌, List, length, map, zip, slice_index_or, if◌then◌else◌}
use Rattle.std.specs.List.{range_with_len}
use Rattle.grids.specs.Coordinates.{coordinates_of, index_of, in_bounds}
use Rattle.layouts.specs.Chunks.{chunk_cells, cell_chunk, cell_index}
use Rattle.layouts.specs.declared.numbers.LayoutNumbers.{LayoutNumbers}
use Rattle.lists.specs.Numbers.{product}
use Rattle.grids.specs.Tiles.{tile_from}
use Rattle.cells.specs.Cells.{empty_cell}
use Rattle.cells.specs.declared.cell.Cell.{Cell}

-- the cells of chunk n are put in their places among the first cells of the array, and all other cells stay. There may be more first cells than before
pub record PlacesChunk (l : LayoutNumbers) (n : ℕ) (chunk old new : List Cell) : Type 0 where
  pub long : length old ≤ length new
  pub few : length new ≤ product l.extents
  pub there : (k : ℕ) → k < product l.extents → cell_chunk l k ≡ n → k < length new
  pub placed : (k : ℕ) (d : Cell) → k < product l.extents → cell_chunk l k ≡ n → slice_index_or new k d ≡ slice_index_or chunk (cell_index l k) d
  pub kept : (k : ℕ) (d : Cell) → k < length old → cell_chunk l k ≢ n → slice_index_or new k d ≡ slice_index_or old k d

-- the cell of chunk n at index p: the cell of the array that lies there, and the empty cell where the chunk extends past the edge
abbrev pub chunk_cell : LayoutNumbers → List Cell → ℕ → ℕ → Cell
chunk_cell l cells n p =
    let at = map (λ (f, c). f + c) (zip (tile_from l.extents l.chunk n) (coordinates_of l.chunk p)) in
    if in_bounds l.extents at then slice_index_or cells (index_of l.extents at) empty_cell else empty_cell

-- the cells of chunk n, padding included
abbrev pub chunk_of_cells : LayoutNumbers → List Cell → ℕ → List Cell
chunk_of_cells l cells n = map (chunk_cell l cells n) (range_with_len 0 (chunk_cells l))
