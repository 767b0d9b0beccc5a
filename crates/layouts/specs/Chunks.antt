-- The chunks and the blocks of a layout.
-- Used by `chunk_copies`, `array_file`, `chunk_store` and `search_run`, and in this crate.
use Rattle.std.specs.Prelude.{ℕ, ◌+◌, List, [], slice_index_or}
use Rattle.grids.specs.Coordinates.{coordinates_of}
use Rattle.layouts.specs.declared.numbers.LayoutNumbers.{LayoutNumbers}
use Rattle.grids.specs.Tiles.{tile_to, grid_of, tile_count, tile_of, index_in_tile, tile_from}
use Rattle.lists.specs.Numbers.{product}
use Rattle.cells.specs.declared.rect.Rect.{Rect}

-- ---- tiles

-- the cells of a tile, cut to the array
abbrev pub tile_rect : List ℕ → List ℕ → ℕ → Rect
tile_rect extents lengths t = record { from = tile_from extents lengths t; to = tile_to extents lengths t }

-- ---- chunks

-- how many cells a chunk has, padding included
abbrev pub chunk_cells : LayoutNumbers → ℕ
chunk_cells l = product l.chunk

-- how many chunks there are
abbrev pub chunk_count : LayoutNumbers → ℕ
chunk_count l = tile_count l.extents l.chunk

-- the cells of a chunk, cut to the array
abbrev pub chunk_rect : LayoutNumbers → ℕ → Rect
chunk_rect l n = tile_rect l.extents l.chunk n

-- the chunk in which the cell with these coordinates lies
abbrev pub chunk_of : LayoutNumbers → List ℕ → ℕ
chunk_of l at = tile_of l.extents l.chunk at

-- the index of that cell in the chunk, padding included
abbrev pub index_in_chunk : LayoutNumbers → List ℕ → ℕ
index_in_chunk l at = index_in_tile l.chunk at

-- the same for the k-th cell
abbrev pub cell_chunk : LayoutNumbers → ℕ → ℕ
cell_chunk l k = chunk_of l (coordinates_of l.extents k)

abbrev pub cell_index : LayoutNumbers → ℕ → ℕ
cell_index l k = index_in_chunk l (coordinates_of l.extents k)

-- ---- blocks

-- the extents of a block of a level
abbrev pub block_extents : LayoutNumbers → ℕ → List ℕ
block_extents l level = slice_index_or l.blocks level []

-- how many blocks a level has in each dimension
abbrev pub level_grid : LayoutNumbers → ℕ → List ℕ
level_grid l level = grid_of l.extents (block_extents l level)

-- how many blocks a level has
abbrev pub block_count : LayoutNumbers → ℕ → ℕ
block_count l level = tile_count l.extents (block_extents l level)

-- the cells of a block, cut to the array
abbrev pub block_rect : LayoutNumbers → ℕ → ℕ → Rect
block_rect l level b = tile_rect l.extents (block_extents l level) b

-- the block of a level in which the cell with these coordinates lies
abbrev pub block_of : LayoutNumbers → ℕ → List ℕ → ℕ
block_of l level at = tile_of l.extents (block_extents l level) at

-- the block of the next level in which the first cell of a block lies
abbrev pub block_above : LayoutNumbers → ℕ → ℕ → ℕ
block_above l level b = block_of l (level + 1) (tile_from l.extents (block_extents l level) b)

-- the chunk in which the first cell of a block of level 0 lies
abbrev pub chunk_around : LayoutNumbers → ℕ → ℕ
chunk_around l b = chunk_of l (tile_from l.extents (block_extents l 0) b)
