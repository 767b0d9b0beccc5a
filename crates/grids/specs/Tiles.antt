-- Tiles: rectangles of one size, numbered row-major, that cover an array and are cut to it. Chunks are tiles, and the blocks of each level are tiles too.
-- Used by `layouts`, `chunk_copies` and `chunk_store`, and in this crate.
use Rattle.std.specs.Prelude.{◌≡◌, ℕ, ◌+◌, ◌-◌, ◌*◌, ◌/◌, ◌%◌, ◌≤◌, min, nat_lt, List, map, zip, if◌then◌else◌}
use Rattle.std.specs.List.{AllZip}
use Rattle.lists.specs.Numbers.{product}
use Rattle.grids.specs.Coordinates.{coordinates_of, index_of}

-- how many pieces of this length cover an extent
abbrev pub pieces_of : ℕ → ℕ → ℕ
pieces_of extent length = (extent + (length - 1)) / length

-- how many pieces of these lengths cover the extents, in each dimension
abbrev pub grid_of : List ℕ → List ℕ → List ℕ
grid_of extents lengths = map (λ (n, m). pieces_of n m) (zip extents lengths)

-- as many lengths as extents, each at least 1
abbrev pub IsTiling : List ℕ → List ℕ → Type 0
IsTiling extents lengths = AllZip (λ _ m. 1 ≤ m) extents lengths

-- each longer length is a multiple of the shorter one
abbrev pub AreMultiples : List ℕ → List ℕ → Type 0
AreMultiples longer shorter = AllZip (λ m k. m % k ≡ 0) longer shorter

-- how many tiles of these lengths cover these extents
abbrev pub tile_count : List ℕ → List ℕ → ℕ
tile_count extents lengths = product (grid_of extents lengths)

-- the number of the tile in which a cell lies
abbrev pub tile_of : List ℕ → List ℕ → List ℕ → ℕ
tile_of extents lengths at = index_of (grid_of extents lengths) (map (λ (c, m). c / m) (zip at lengths))

-- the index of the cell within its tile, as if the tile were not cut
abbrev pub index_in_tile : List ℕ → List ℕ → ℕ
index_in_tile lengths at = index_of lengths (map (λ (c, m). c % m) (zip at lengths))

-- the coordinates of a tile in the grid
abbrev pub tile_coordinates : List ℕ → List ℕ → ℕ → List ℕ
tile_coordinates extents lengths t = coordinates_of (grid_of extents lengths) t

-- its first coordinates
abbrev pub tile_from : List ℕ → List ℕ → ℕ → List ℕ
tile_from extents lengths t = map (λ (q, m). q * m) (zip (tile_coordinates extents lengths t) lengths)

-- the coordinates past its last ones, cut to the extents
abbrev pub tile_to : List ℕ → List ℕ → ℕ → List ℕ
tile_to extents lengths t =
    map (λ (n, b). min n b) (zip extents (map (λ (q, m). q * m + m) (zip (tile_coordinates extents lengths t) lengths)))

-- ---- the tiles that meet a rectangle, by the rectangle's ends

-- in one dimension, the tile after the last one that has a coordinate from f up to t; the first one if there is no such coordinate
abbrev pub tile_after : ℕ → ℕ → ℕ → ℕ
tile_after f t length = if nat_lt f t then pieces_of t length else f / length

-- the first of these tiles in each dimension
abbrev pub first_tiles : List ℕ → List ℕ → List ℕ
first_tiles froms lengths = map (λ (f, m). f / m) (zip froms lengths)

-- the tile after the last of them in each dimension
abbrev pub tiles_after : List ℕ → List ℕ → List ℕ → List ℕ
tiles_after froms tos lengths = map (λ (f, p). tile_after f p.0 p.1) (zip froms (zip tos lengths))
