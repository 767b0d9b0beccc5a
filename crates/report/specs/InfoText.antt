-- What `info` prints: the lines of a layout and of the record of an array's cells.
-- Used by `print_info`, and by the command `info` of `search_run`.
use Rattle.std.specs.Prelude.{ℕ, ◌==◌, List, [], ◌++◌, take, flat_map, if◌then◌else◌, decimal, codes}
use Rattle.std.specs.Fmt.{signed_decimal}
use Rattle.std.specs.List.{range_with_len}
use Rattle.layouts.specs.Chunks.{chunk_count, block_extents, level_grid}
use Rattle.layouts.specs.declared.numbers.LayoutNumbers.{LayoutNumbers}
use Rattle.lists.specs.Numbers.{product}
use Rattle.cells.specs.declared.record.Record.{Record}

-- a space and a number
abbrev pub item : ℕ → List ℕ
item n = codes " " ++ decimal n

-- a space and a number for each dimension that is used
abbrev pub items : ℕ → List ℕ → List ℕ
items rank numbers = flat_map item (take rank numbers)

-- the rank, the extents of the array, the extents of a chunk, and the number of chunks, each on a line
abbrev pub shape_lines : LayoutNumbers → List ℕ
shape_lines l =
    codes "rank" ++ item l.rank ++ codes "\n"
    ++ codes "extent" ++ items l.rank l.extents ++ codes "\n"
    ++ codes "chunk" ++ items l.rank l.chunk ++ codes "\n"
    ++ codes "chunks" ++ item (chunk_count l) ++ codes "\n"

-- the extents of a block of a level, and how many blocks it has in each dimension
abbrev pub level_line : LayoutNumbers → ℕ → List ℕ
level_line l level =
    codes "level" ++ item level ++ codes " block" ++ items l.rank (block_extents l level)
    ++ codes " grid" ++ items l.rank (level_grid l level) ++ codes "\n"

-- the lines of all levels, the finest first
abbrev pub level_lines : LayoutNumbers → List ℕ
level_lines l = flat_map (level_line l) (range_with_len 0 l.levels)

-- the extremes and the sum of a record
abbrev pub extreme_items : Record → List ℕ
extreme_items r = codes " least " ++ signed_decimal r.least ++ codes " greatest " ++ signed_decimal r.greatest ++ codes " sum " ++ signed_decimal r.sum

-- the number of cells, the number of present cells, and, if there is one, the extremes and the sum of these
abbrev pub cells_line : LayoutNumbers → Record → List ℕ
cells_line l r = codes "cells" ++ item (product l.extents) ++ codes " present" ++ item r.count ++ (if r.count == 0 then [] else extreme_items r) ++ codes "\n"

-- all lines of a layout and the record of its array's cells
abbrev pub info_text : LayoutNumbers → Record → List ℕ
info_text l r = shape_lines l ++ level_lines l ++ cells_line l r
