-- The cells of chunks in their places in the array, and the numbers among them. Padding has no place.
-- Used in this crate alone.
use Rattle.std.specs.Prelude.{◌≡◌, ℕ, ◌<◌, ◌≤◌, ◌==◌, nat_lt, List, ℤ, length, map, filter, filter_map, slice_index_or}
use Rattle.std.specs.List.{range_with_len}
use Rattle.lists.specs.Numbers.{product}
use Rattle.grids.specs.Coordinates.{coordinates_of}
use Rattle.cells.specs.Array.{Array, number_at}
use Rattle.cells.specs.Cells.{cell_value, empty_cell}
use Rattle.cells.specs.Rects.{rect_contains}
use Rattle.cells.specs.declared.cell.Cell.{Cell}
use Rattle.cells.specs.declared.rect.Rect.{Rect}
use Rattle.layouts.specs.Chunks.{cell_chunk, cell_index}
use Rattle.layouts.specs.declared.numbers.LayoutNumbers.{LayoutNumbers}

-- ---- cells

-- the list has the places of some first cells of the array, among them those of the first m chunks
pub record ReachesFirstChunks (l : LayoutNumbers) (m : ℕ) (cells : List Cell) : Type 0 where
  pub few : length cells ≤ product l.extents
  pub there : (k : ℕ) → k < product l.extents → cell_chunk l k < m → k < length cells

-- the cells of the first m chunks are in their places. f gives the cell of a chunk at an index of the chunk
pub record HasFirstChunks (l : LayoutNumbers) (f : ℕ → ℕ → Cell) (m : ℕ) (cells : List Cell) : Type 0 where
  pub reaches : ReachesFirstChunks l m cells
  pub placed : (k : ℕ) (d : Cell) → k < product l.extents → cell_chunk l k < m → slice_index_or cells k d ≡ f (cell_chunk l k) (cell_index l k)

-- the cells of an array. f gives the cell of a chunk at an index of the chunk
abbrev pub cells_of_chunks : LayoutNumbers → (ℕ → ℕ → Cell) → List Cell
cells_of_chunks l f = map (λ k. f (cell_chunk l k) (cell_index l k)) (range_with_len 0 (product l.extents))

-- ---- places and numbers

-- the places that lie in chunk n, in order
abbrev pub places_of_chunk : LayoutNumbers → ℕ → List ℕ
places_of_chunk l n = filter (λ k. cell_chunk l k == n) (range_with_len 0 (product l.extents))

-- the places that lie in the first m chunks, in order
abbrev pub places_of_first_chunks : LayoutNumbers → ℕ → List ℕ
places_of_first_chunks l m = filter (λ k. nat_lt (cell_chunk l k) m) (range_with_len 0 (product l.extents))

-- the numbers at these places. f gives the cell of a chunk at an index of the chunk
abbrev pub numbers_at : LayoutNumbers → (ℕ → ℕ → Cell) → List ℕ → List ℤ
numbers_at l f places = filter_map (λ k. cell_value (f (cell_chunk l k) (cell_index l k))) places

-- the numbers of chunk n that lie in the array, if these are its cells with the padding
abbrev pub chunk_numbers : LayoutNumbers → ℕ → List Cell → List ℤ
chunk_numbers l n chunk = filter_map (λ k. cell_value (slice_index_or chunk (cell_index l k) empty_cell)) (places_of_chunk l n)

-- the numbers of chunk n that lie in the array. f gives the cell of a chunk at an index of the chunk
abbrev pub numbers_of_chunk : LayoutNumbers → (ℕ → ℕ → Cell) → ℕ → List ℤ
numbers_of_chunk l f n = numbers_at l f (places_of_chunk l n)

-- the numbers of the first m chunks
abbrev pub numbers_of_first_chunks : LayoutNumbers → (ℕ → ℕ → Cell) → ℕ → List ℤ
numbers_of_first_chunks l f m = numbers_at l f (places_of_first_chunks l m)

-- ---- a rectangle in one chunk

-- the places of chunk n that lie in a rectangle, in order
abbrev pub shared_places : LayoutNumbers → ℕ → Rect → List ℕ
shared_places l n r = filter (λ k. rect_contains r (coordinates_of l.extents k)) (places_of_chunk l n)

-- the numbers of chunk n that lie in a rectangle, if these are its cells with the padding
abbrev pub rect_numbers : LayoutNumbers → ℕ → List Cell → Rect → List ℤ
rect_numbers l n chunk r = filter_map (λ k. cell_value (slice_index_or chunk (cell_index l k) empty_cell)) (shared_places l n r)

-- these are the cells of chunk n of an array, whatever the padding is
abbrev pub IsChunkOf : LayoutNumbers → ℕ → Array → List Cell → Type 0
IsChunkOf l n a chunk = (k : ℕ) → k < product l.extents → cell_chunk l k ≡ n → number_at a k ≡ cell_value (slice_index_or chunk (cell_index l k) empty_cell)
