-- The plain text of an array states that array, and is not too long.
-- Used by the proofs of `plain_texts_are_read_back` and `what_is_read_has_a_plain_text`.
use Rattle.std.proofs.Common.{◌≡◌, ℕ, ◌*◌, ◌<◌, ◌≤◌, ◌^◌, List, [], ◌∷◌, ◌++◌, length, map, take, All, Ok, refl, ap, sym, subst, ◌∙◌, arith, w32, codes}
use Rattle.std.specs.Prelude.{FitsSigned}
use Rattle.std.specs.List.{flat_map, AllZip}
use Rattle.std.proofs.lemmas.List.{append_assoc, length-append, length-map, length-take, get_or-take}
use Rattle.std.proofs.lemmas.List.Elements.{All-nil, All-cons, All-head, All-tail, All-append, All-map, All-take, All-from_get_or}
use Rattle.lists.specs.Numbers.{product}
use Rattle.cells.specs.declared.cell.Cell.{Cell}
use Rattle.layouts.specs.Chunks.{block_extents}
use Rattle.layouts.specs.declared.numbers.LayoutNumbers.{LayoutNumbers}
use Rattle.layouts.specs.Rules.{AreLengths, IsLayout}
use Rattle.array_text.specs.Contents.{Item, keyword, number, cell, IsWrittenAs, part_items, layout_items, array_items, WordsState}
use Rattle.array_text.specs.PlainText.{plain_word, spaced_word, plain_text}
use Rattle.array_text.specs.Walk.{stated_array}
use Rattle.array_text.specs.Words.{words}
use Rattle.array_text.proofs.FirstWords.{words-none}
use Rattle.array_text.proofs.LayoutRules.{level_numbers, levels_taken}
use Rattle.array_text.proofs.PlainWords.{IsShortWord, short_word, Fits, plain}
use Rattle.array_text.proofs.StatedArrays.{stated_array-is}
use Rattle.array_text.proofs.WordLaws.{words-up_to_a_blank}

-- ---- any items

plain_words : (items : List Item) → All Fits items → words (flat_map spaced_word items) ≡ map plain_word items
plain_words [] all = words-none
plain_words (i ∷ items) all =
    let others = flat_map spaced_word items in
    ap words (append_assoc (plain_word i) (codes " ") others)
    ∙ words-up_to_a_blank (plain_word i) 32 others (plain i (All-head Fits i items all)).short.word refl
    ∙ ap (λ ws. plain_word i ∷ ws) (plain_words items (All-tail Fits i items all))

plain_written : (items : List Item) → All Fits items → AllZip IsWrittenAs items (map plain_word items)
plain_written [] all = tt
plain_written (i ∷ items) all = ((plain i (All-head Fits i items all)).writes, plain_written items (All-tail Fits i items all))

-- ten digits, a sign and a space
plain_length : (items : List Item) → All Fits items → length (flat_map spaced_word items) ≤ 12 * length items
plain_length [] all = omega arith
plain_length (i ∷ items) all =
    let short = (plain i (All-head Fits i items all)).short.short in
    let first = length-append (plain_word i) (codes " ") in
    let both = length-append (spaced_word i) (flat_map spaced_word items) in
    omega (arith, short, first, both, plain_length items (All-tail Fits i items all))

-- ---- the items of a layout

abbrev IsSmall : ℕ → Type 0
IsSmall n = n < 4294967296

lengths_small : (ns : List ℕ) → length ns ≡ 3 → AreLengths ns → All IsSmall ns
lengths_small ns three are = All-from_get_or IsSmall ns 0 (λ i below. let low : i < 3 = omega (arith, three, below) in omega (arith, (are i low).1))

part_fits : (name : List ℕ) (rank : ℕ) (ns : List ℕ) → IsShortWord name → All IsSmall ns → All Fits (part_items name rank ns)
part_fits name rank ns short small =
    All-cons Fits (keyword name) (map number (take rank ns)) short (All-map Fits number (take rank ns) (All-take IsSmall rank ns small))

part_length : (name : List ℕ) (rank : ℕ) (ns : List ℕ) → length ns ≡ 3 → length (part_items name rank ns) ≤ 4
part_length name rank ns three = omega (arith, length-map (take rank ns) number, length-take rank ns, three)

is_level : IsShortWord (codes "level")
is_level = short_word (codes "level") (omega arith) refl (omega arith)

-- three small numbers
record IsSmallBlock (b : List ℕ) : Type 0 where
  three : length b ≡ 3
  small : All IsSmall b

levels_fit : (rank : ℕ) (blocks : List (List ℕ)) → All IsSmallBlock blocks → All Fits (flat_map (part_items (codes "level") rank) blocks)
levels_fit rank [] all = All-nil Fits
levels_fit rank (b ∷ blocks) all =
    All-append Fits (part_items (codes "level") rank b) (flat_map (part_items (codes "level") rank) blocks)
    (part_fits (codes "level") rank b is_level (All-head IsSmallBlock b blocks all).small) (levels_fit rank blocks (All-tail IsSmallBlock b blocks all))

levels_length : (rank : ℕ) (blocks : List (List ℕ)) → All IsSmallBlock blocks → length (flat_map (part_items (codes "level") rank) blocks) ≤ 4 * length blocks
levels_length rank [] all = omega arith
levels_length rank (b ∷ blocks) all =
    let part = part_length (codes "level") rank b (All-head IsSmallBlock b blocks all).three in
    let both = length-append (part_items (codes "level") rank b) (flat_map (part_items (codes "level") rank) blocks) in
    omega (arith, part, both, levels_length rank blocks (All-tail IsSmallBlock b blocks all))

blocks_small : (l : LayoutNumbers) → IsLayout l → All IsSmallBlock (take l.levels l.blocks)
blocks_small l is =
    All-from_get_or IsSmallBlock (take l.levels l.blocks) []
    (λ i below. let used : i < l.levels = omega (arith, below, levels_taken l is) in
    let three = (level_numbers l i is used).three in
    subst IsSmallBlock (sym (get_or-take l.levels l.blocks i [] used)) (record { three = three; small = lengths_small (block_extents l i) three (is.facts.blocks i used) }))

layout_fits : (l : LayoutNumbers) → IsLayout l → All Fits (layout_items l)
layout_fits l is =
    let extent = part_items (codes "extent") l.rank l.extents in
    let chunk = part_items (codes "chunk") l.rank l.chunk in
    let levels = flat_map (part_items (codes "level") l.rank) (take l.levels l.blocks) in
    let short_rank = short_word (codes "rank") (omega arith) refl (omega arith) in
    let short_extent = short_word (codes "extent") (omega arith) refl (omega arith) in
    let short_chunk = short_word (codes "chunk") (omega arith) refl (omega arith) in
    let short_cells = short_word (codes "cells") (omega arith) refl (omega arith) in
    let low : l.rank < 4294967296 = omega (arith, is.facts.rank_few) in
    All-cons Fits (keyword (codes "rank")) (number l.rank ∷ (((extent ++ chunk) ++ levels) ++ keyword (codes "cells") ∷ [])) short_rank
    (All-cons Fits (number l.rank) (((extent ++ chunk) ++ levels) ++ keyword (codes "cells") ∷ []) low
    (All-append Fits ((extent ++ chunk) ++ levels) (keyword (codes "cells") ∷ [])
    (All-append Fits (extent ++ chunk) levels
    (All-append Fits extent chunk
    (part_fits (codes "extent") l.rank l.extents short_extent (lengths_small l.extents is.extents is.facts.extents))
    (part_fits (codes "chunk") l.rank l.chunk short_chunk (lengths_small l.chunk is.chunk is.facts.chunk)))
    (levels_fit l.rank (take l.levels l.blocks) (blocks_small l is)))
    (All-cons Fits (keyword (codes "cells")) [] short_cells (All-nil Fits))))

layout_length : (l : LayoutNumbers) → IsLayout l → length (layout_items l) ≤ 27
layout_length l is =
    let extent = part_items (codes "extent") l.rank l.extents in
    let chunk = part_items (codes "chunk") l.rank l.chunk in
    let levels = flat_map (part_items (codes "level") l.rank) (take l.levels l.blocks) in
    let all = length-append ((extent ++ chunk) ++ levels) (keyword (codes "cells") ∷ []) in
    let three = length-append (extent ++ chunk) levels in
    let two = length-append extent chunk in
    omega (
      arith,
      all,
      three,
      two,
      part_length (codes "extent") l.rank l.extents is.extents,
      part_length (codes "chunk") l.rank l.chunk is.chunk,
      levels_length l.rank (take l.levels l.blocks) (blocks_small l is),
      levels_taken l is,
      is.facts.levels_few,
    )

-- ---- the whole

array_fits : (l : LayoutNumbers) (cells : List Cell) → IsLayout l → All (λ c. FitsSigned w32 c.0) cells → All Fits (array_items l cells)
array_fits l cells is bits = All-append Fits (layout_items l) (map cell cells) (layout_fits l is) (All-map Fits cell cells bits)

plain_text-short : (l : LayoutNumbers) (cells : List Cell) → IsLayout l → length cells ≡ product l.extents → All (λ c. FitsSigned w32 c.0) cells
    → length (plain_text l cells) ≤ 2 ^ 30
unfolding plain_text
plain_text-short l cells is count bits =
    let all = length-append (layout_items l) (map cell cells) in
    omega (arith, all, plain_length (array_items l cells) (array_fits l cells is bits), layout_length l is, length-map cells cell, count, is.facts.cells)

plain_text-state : (l : LayoutNumbers) (cells : List Cell) → IsLayout l → length cells ≡ product l.extents → All (λ c. FitsSigned w32 c.0) cells
    → WordsState (words (plain_text l cells)) l cells
unfolding plain_text
plain_text-state l cells is count bits =
    let items = array_items l cells in
    let fits = array_fits l cells is bits in
    record { layout = is; count = count; items = subst (λ ws. AllZip IsWrittenAs items ws) (sym (plain_words items fits)) (plain_written items fits) }

pub plain_text-is : (l : LayoutNumbers) (cells : List Cell) → IsLayout l → length cells ≡ product l.extents → All (λ c. FitsSigned w32 c.0) cells
    → stated_array (plain_text l cells) ≡ Ok (l, cells)
plain_text-is l cells is count bits =
    stated_array-is (plain_text l cells) l cells (plain_text-short l cells is count bits) (plain_text-state l cells is count bits)
