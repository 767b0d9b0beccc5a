-- The header of an array file: its numbers, the layout that they state, and the first rule that a file breaks.
-- Used by `chunk_store` and `search_run`, and in this crate.
use Rattle.std.specs.Prelude.{ℕ, ◌+◌, ◌*◌, ◌==◌, nat_le, nat_eq, List, [], ◌∷◌, ◌++◌, take, drop, map, slice_index, Option, codes}
use Rattle.std.specs.List.{flat_map, range_with_len, starts_with}
use Rattle.byteorder.specs.Endian.{little_bytes, little_number}
use Rattle.layouts.specs.declared.numbers.LayoutNumbers.{LayoutNumbers}
use Rattle.layouts.specs.Chunks.{chunk_cells, chunk_count}
use Rattle.lists.specs.Rules.{Rule, first_broken}
use Rattle.layouts.specs.Rules.{layout_rules}
use Rattle.array_file.specs.declared.refusal.FileRefusal.{FileRefusal}
use Rattle.array_file.specs.declared.refusal.FileRefusal.TheVariants.{Short, Magic, Version, Layout, WrongLength}

-- the twelve bytes that each array file begins with
abbrev pub magic_word : List ℕ
magic_word = codes "SEARCHLIGHT\n"

-- ---- from a header to a layout

-- the k-th number of the header, after the magic word
abbrev pub header_number : List ℕ → ℕ → ℕ
header_number header k = little_number 4 (drop (4 * k) (drop 12 header))

-- its 21 numbers: version, rank, extents, chunk extents, how many levels, and the block extents of four levels
unfoldable pub header_numbers : List ℕ → List ℕ
header_numbers header = map (header_number header) (range_with_len 0 21)

-- three numbers from the k-th on
abbrev pub three_from : List ℕ → ℕ → List ℕ
three_from numbers k = take 3 (drop k numbers)

-- the layout that the header's numbers state
abbrev pub layout_in : List ℕ → LayoutNumbers
layout_in numbers = record {
  rank = slice_index numbers 1;
  extents = three_from numbers 2;
  chunk = three_from numbers 5;
  levels = slice_index numbers 8;
  blocks = three_from numbers 9 ∷ three_from numbers 12 ∷ three_from numbers 15 ∷ three_from numbers 18 ∷ [];
}

-- the layout that a header states
unfoldable pub stored_layout : List ℕ → LayoutNumbers
stored_layout header = layout_in (header_numbers header)

-- ---- from a layout to a header

-- the 21 numbers of a layout
abbrev pub layout_numbers : LayoutNumbers → List ℕ
layout_numbers l = 1 ∷ l.rank ∷ [] ++ l.extents ++ l.chunk ++ l.levels ∷ [] ++ flat_map (λ block. block) l.blocks

-- the header of a layout: the magic word, and its numbers of four bytes each, the lowest byte first
unfoldable pub header_of : LayoutNumbers → List ℕ
header_of l = magic_word ++ flat_map (little_bytes 4) (layout_numbers l)

-- ---- which files are refused

-- how many bytes the header and the chunks of a layout take
abbrev pub file_size : LayoutNumbers → ℕ
file_size l = 96 + 4 * chunk_cells l * chunk_count l

-- the rules of a file with this header and this size in bytes. The header of a file that is too short is the whole file
abbrev pub file_rules : List ℕ → ℕ → List (Rule FileRefusal)
file_rules header size =
    (nat_le 96 size, Short size) ∷ []
    ++ (starts_with nat_eq header magic_word, Magic) ∷ []
    ++ (slice_index (header_numbers header) 0 == 1, Version (slice_index (header_numbers header) 0)) ∷ []
    ++ map (λ r. (r.0, Layout r.1)) (layout_rules (stored_layout header))
    ++ (size == file_size (stored_layout header), WrongLength (file_size (stored_layout header)) size) ∷ []

-- the refusal of the first rule that such a file breaks
unfoldable pub layout_refusal : List ℕ → ℕ → Option FileRefusal
layout_refusal header size = first_broken (file_rules header size)
