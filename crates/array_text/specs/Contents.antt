-- What the words of an array text stand for. It knows no walk and no refusals. The laws compare the walk with it.
-- Used in this crate alone.
use Rattle.std.specs.Prelude.{◌≡◌, ℕ, List, [], ◌∷◌, ◌++◌, map, take, length, Some, codes}
use Rattle.std.specs.List.{flat_map, AllZip}
use Rattle.lists.specs.Numbers.{product}
use Rattle.cells.specs.declared.cell.Cell.{Cell}
use Rattle.layouts.specs.declared.numbers.LayoutNumbers.{LayoutNumbers}
use Rattle.layouts.specs.Rules.{IsLayout}
use Rattle.array_text.specs.Numbers.{layout_number, cell_of}

-- what a word stands for: a keyword, a number of the layout, or a cell
pub data Item : Type 0 where
  keyword : List ℕ → Item
  number : ℕ → Item
  cell : Cell → Item

-- the word stands for the item. A number or a cell may be written in several ways, as `7` and `07`
abbrev pub IsWrittenAs : Item → List ℕ → Type 0
IsWrittenAs (keyword name) w = w ≡ name
IsWrittenAs (number n) w = layout_number w ≡ Some n
IsWrittenAs (cell c) w = cell_of w ≡ Some c

-- a keyword, and the numbers of the dimensions that are used
abbrev pub part_items : List ℕ → ℕ → List ℕ → List Item
part_items name rank numbers = keyword name ∷ map number (take rank numbers)

-- the rank, the extents of the array, those of a chunk, those of a block of each level that is used, and the keyword `cells`
abbrev pub layout_items : LayoutNumbers → List Item
layout_items l =
    keyword (codes "rank") ∷ number l.rank ∷ part_items (codes "extent") l.rank l.extents
    ++ part_items (codes "chunk") l.rank l.chunk
    ++ flat_map (part_items (codes "level") l.rank) (take l.levels l.blocks)
    ++ keyword (codes "cells") ∷ []

-- the items of a layout, and the cells of its array
abbrev pub array_items : LayoutNumbers → List Cell → List Item
array_items l cells = layout_items l ++ map cell cells

-- the words state a layout and the cells of its array: one word for each item, in their order, and no others
pub record WordsState (ws : List (List ℕ)) (l : LayoutNumbers) (cells : List Cell) : Type 0 where
  pub layout : IsLayout l
  pub count : length cells ≡ product l.extents
  pub items : AllZip IsWrittenAs (array_items l cells) ws
