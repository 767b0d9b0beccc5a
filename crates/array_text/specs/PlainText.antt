-- The plain text of an array: each item as a word, and a space after each word. The laws say that it is read back.
-- Used in this crate alone.
use Rattle.std.specs.Prelude.{ℕ, List, ◌++◌, codes}
use Rattle.std.specs.Fmt.{decimal, signed_decimal}
use Rattle.std.specs.List.{flat_map}
use Rattle.std.specs.Option.{option_map_or}
use Rattle.cells.specs.Cells.{cell_value}
use Rattle.cells.specs.declared.cell.Cell.{Cell}
use Rattle.layouts.specs.declared.numbers.LayoutNumbers.{LayoutNumbers}
use Rattle.array_text.specs.Contents.{Item, keyword, number, cell, array_items}

-- an item as a word. A number is in decimal, without leading zeros, and with a sign only if it is negative. The empty cell is `.`
abbrev pub plain_word : Item → List ℕ
plain_word (keyword name) = name
plain_word (number n) = decimal n
plain_word (cell c) = option_map_or signed_decimal (cell_value c) (codes ".")

-- a word and a space
abbrev pub spaced_word : Item → List ℕ
spaced_word item = plain_word item ++ codes " "

-- the text of a layout and the cells of its array
unfoldable pub plain_text : LayoutNumbers → List Cell → List ℕ
plain_text l cells = flat_map spaced_word (array_items l cells)
