-- Which tiles meet a rectangle, the numbers of the cells that they share with it, and the records of blocks.
-- Used by the laws on tiles and rectangles, and by `chunk_store`.
use Rattle.std.specs.Prelude.{◌≡◌, ℕ, ◌==◌, Bool, List, ℤ, length, filter}
use Rattle.std.specs.List.{range_with_len}
use Rattle.lists.specs.Numbers.{product}
use Rattle.grids.specs.Tiles.{first_tiles, tiles_after, tile_coordinates, tile_count}
use Rattle.cells.specs.Array.{Array, present_cells}
use Rattle.cells.specs.Records.{record_of}
use Rattle.cells.specs.Rects.{rect_contains, meet_of, sides_of}
use Rattle.cells.specs.declared.record.Record.{Record}
use Rattle.cells.specs.declared.rect.Rect.{Rect}
use Rattle.layouts.specs.Chunks.{tile_rect, block_extents, block_count, block_above, chunk_around}
use Rattle.layouts.specs.declared.numbers.LayoutNumbers.{LayoutNumbers}

-- ---- tiles that meet a rectangle

-- the tiles of these lengths that meet a rectangle, as a rectangle of the grid
abbrev pub tiles_meeting : List ℕ → Rect → Rect
tiles_meeting lengths r = record { from = first_tiles r.from lengths; to = tiles_after r.from r.to lengths }

-- tile t is one of them
abbrev pub is_meeting : List ℕ → List ℕ → Rect → ℕ → Bool
is_meeting extents lengths r t = rect_contains (tiles_meeting lengths r) (tile_coordinates extents lengths t)

-- all of them, in order
abbrev pub meeting_tiles : List ℕ → List ℕ → Rect → List ℕ
meeting_tiles extents lengths r = filter (is_meeting extents lengths r) (range_with_len 0 (tile_count extents lengths))

-- the numbers of the cells that a rectangle shares with tile t
abbrev pub shared_numbers : Array → List ℕ → Rect → ℕ → List ℤ
shared_numbers a lengths r t = present_cells a (sides_of (meet_of r (tile_rect a.extents lengths t)))

-- ---- the records of tiles

-- the numbers of tile t
abbrev pub tile_numbers : Array → List ℕ → ℕ → List ℤ
tile_numbers a lengths t = present_cells a (sides_of (tile_rect a.extents lengths t))

-- the record of tile t
abbrev pub tile_record : Array → List ℕ → ℕ → Record
tile_record a lengths t = record_of (tile_numbers a lengths t)

-- the record of a block
abbrev pub block_record : Array → LayoutNumbers → ℕ → ℕ → Record
block_record a l level b = tile_record a (block_extents l level) b

-- the array has the extents of the layout, and as many cells as they say
pub record IsArrayOf (l : LayoutNumbers) (a : Array) : Type 0 where
  pub extents : a.extents ≡ l.extents
  pub cells : length a.cells ≡ product a.extents

-- the blocks of a level that lie inside block c of the next level, in order
abbrev pub blocks_inside : LayoutNumbers → ℕ → ℕ → List ℕ
blocks_inside l level c = filter (λ b. block_above l level b == c) (range_with_len 0 (block_count l level))

-- the blocks of level 0 that lie inside chunk n, in order
abbrev pub blocks_in_chunk : LayoutNumbers → ℕ → List ℕ
blocks_in_chunk l n = filter (λ b. chunk_around l b == n) (range_with_len 0 (block_count l 0))
