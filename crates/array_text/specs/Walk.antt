-- The walk over the words of a text, in order. Each step gives what it read, or the refusal that ends the walk.
-- Used by `search_run`, and in this crate.
use Rattle.std.specs.Prelude.{ℕ, ◌+◌, ◌^◌, zero, suc, nat_lt, Bool, true, false, List, [], ◌∷◌, ◌++◌, length, replicate, Option, Some, None, Result, Ok, Err, if◌then◌else◌, bytes_eq, codes, slice_set, ⊤}
use Rattle.std.specs.Option.{option_map_or}
use Rattle.layouts.specs.declared.numbers.LayoutNumbers.{LayoutNumbers}
use Rattle.lists.specs.Numbers.{product}
use Rattle.lists.specs.Rules.{first_broken}
use Rattle.layouts.specs.Rules.{layout_rules, is_between}
use Rattle.cells.specs.declared.cell.Cell.{Cell}
use Rattle.layouts.specs.declared.refusal.LayoutRefusal.{LayoutRefusal}
use Rattle.layouts.specs.declared.refusal.LayoutRefusal.TheVariants.{Rank}
use Rattle.array_text.specs.declared.fault.TextRefusal.{TextRefusal}
use Rattle.array_text.specs.declared.fault.TextRefusal.TheVariants.{TooLong, Word, Missing, Extra, Layout}
use Rattle.array_text.specs.Numbers.{layout_number, cell_of}
use Rattle.array_text.specs.Words.{words}

-- ---- steps

-- what a step gives
abbrev pub Walked : Type 0 → Type 0
Walked X = Result X TextRefusal

-- go on with what was read
infixl 10 ◌>>=◌
abbrev pub ◌>>=◌ : {X Y : Type 0} → Walked X → (X → Walked Y) → Walked Y
(Ok x) >>= next = next x
(Err r) >>= next = Err r

-- the rest of a text: the number of the next word, from 1, and the words from it on
pub record Rest : Type 0 where
  pub next : ℕ
  pub words : List (List ℕ)

-- the next word, if it is allowed at its position, and the rest after it
abbrev pub taken : {X : Type 0} → ℕ → List (List ℕ) → Option X → Walked (X × Rest)
taken n ws None = Err (Word n)
taken n ws (Some x) = Ok (x, record { next = n + 1; words = ws })

-- what the next word is, if words of this form are allowed there
abbrev pub word_from : {X : Type 0} → (List ℕ → Option X) → ℕ → List (List ℕ) → Walked (X × Rest)
word_from form n [] = Err (Missing n)
word_from form n (w ∷ ws) = taken n ws (form w)

abbrev pub word : {X : Type 0} → (List ℕ → Option X) → Rest → Walked (X × Rest)
word form rest = word_from form rest.next rest.words

-- ---- the layout

-- this word and no other
abbrev pub this_word : List ℕ → List ℕ → Option ⊤
this_word expected w = if bytes_eq w expected then Some tt else None

-- the number of a dimension: the next word if the dimension is used, and otherwise 1
abbrev pub dimension : ℕ → ℕ → Rest → Walked (ℕ × Rest)
dimension rank d rest = if nat_lt d rank then word layout_number rest else Ok (1, rest)

-- the numbers of the three dimensions
unfoldable pub dimensions : ℕ → Rest → Walked (List ℕ × Rest)
dimensions rank rest =
    dimension rank 0 rest >>= (λ (n, rest).
    dimension rank 1 rest >>= (λ (m, rest).
    dimension rank 2 rest >>= (λ (k, rest).
    Ok (n ∷ m ∷ k ∷ [], rest))))

-- this word, and then the numbers of the dimensions
unfoldable pub lengths : List ℕ → ℕ → Rest → Walked (List ℕ × Rest)
lengths name rank rest = word (this_word name) rest >>= (λ (_, rest). dimensions rank rest)

-- `level` says that a level follows, `cells` that none does
abbrev pub level_or_cells : List ℕ → Option Bool
level_or_cells w = if bytes_eq w (codes "level") then Some true else if bytes_eq w (codes "cells") then Some false else None

-- the blocks of the level that follows; `None` if the word `cells` follows
unfoldable pub next_level : ℕ → Rest → Walked (Option (List ℕ) × Rest)
next_level rank rest =
    word level_or_cells rest >>= (λ (is_level, rest).
    if is_level then dimensions rank rest >>= (λ (block, rest). Ok (Some block, rest)) else Ok (None, rest))

-- at most so many more levels, after n levels that were read into these blocks, and the word `cells`
unfoldable pub levels_from : ℕ → ℕ → ℕ → List (List ℕ) → Rest → Walked ((ℕ × List (List ℕ)) × Rest)
levels_from rank zero n blocks rest = word (this_word (codes "cells")) rest >>= (λ (_, rest). Ok ((n, blocks), rest))
levels_from rank (suc more) n blocks rest =
    next_level rank rest >>= (λ (found, rest).
    option_map_or (λ block. levels_from rank more (n + 1) (slice_set blocks n block) rest) found (Ok ((n, blocks), rest)))

-- four levels that are not used
abbrev pub no_blocks : List (List ℕ)
no_blocks = replicate 4 (0 ∷ 0 ∷ 0 ∷ [])

-- a rank from 1 to 3
abbrev pub rank_checked : ℕ → Walked ⊤
rank_checked rank = if is_between 1 3 rank then Ok tt else Err (Layout (Rank rank))

-- the rank
unfoldable pub rank_from : Rest → Walked (ℕ × Rest)
rank_from rest =
    word (this_word (codes "rank")) rest >>= (λ (_, rest).
    word layout_number rest >>= (λ (rank, rest).
    rank_checked rank >>= (λ _. Ok (rank, rest))))

-- the numbers of a layout, up to the word `cells`
unfoldable pub layout_from : Rest → Walked (LayoutNumbers × Rest)
layout_from rest =
    rank_from rest >>= (λ (rank, rest).
    lengths (codes "extent") rank rest >>= (λ (extents, rest).
    lengths (codes "chunk") rank rest >>= (λ (chunk, rest).
    levels_from rank 4 0 no_blocks rest >>= (λ (levels, rest).
    Ok (record { rank = rank; extents = extents; chunk = chunk; levels = levels.0; blocks = levels.1 }, rest)))))

-- the refusal of the first rule of a layout that is broken
abbrev pub unless_broken : Option LayoutRefusal → Walked ⊤
unless_broken None = Ok tt
unless_broken (Some r) = Err (Layout r)

-- ---- the cells, and the end

-- so many cells, after those that were read before
unfoldable pub cells_from : ℕ → List Cell → Rest → Walked (List Cell × Rest)
cells_from zero before rest = Ok (before, rest)
cells_from (suc more) before rest = word cell_of rest >>= (λ (cell, rest). cells_from more (before ++ cell ∷ []) rest)

-- no word is left
abbrev pub end_from : ℕ → List (List ℕ) → Walked ⊤
end_from n [] = Ok tt
end_from n (w ∷ ws) = Err (Extra n)

-- the cells of a layout, and nothing after them
unfoldable pub array_from : LayoutNumbers → Rest → Walked (LayoutNumbers × List Cell)
array_from layout rest =
    unless_broken (first_broken (layout_rules layout)) >>= (λ _.
    cells_from (product layout.extents) [] rest >>= (λ (cells, rest).
    end_from rest.next rest.words >>= (λ _.
    Ok (layout, cells))))

-- ---- the whole text

-- the layout and the cells that these words state
unfoldable pub read_words : List (List ℕ) → Walked (LayoutNumbers × List Cell)
read_words ws = layout_from (record { next = 1; words = ws }) >>= (λ (layout, rest). array_from layout rest)

-- the layout and the cells that a text states. It has at most 2^30 bytes
unfoldable pub stated_array : List ℕ → Walked (LayoutNumbers × List Cell)
stated_array bytes = if nat_lt (2 ^ 30) (length bytes) then Err (TooLong (length bytes)) else read_words (words bytes)
