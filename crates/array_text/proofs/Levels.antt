-- The levels of a text and its cells, one after the other.
-- Used by the proofs of `read_cells` and `read_levels`.
use Rattle.std.proofs.Common.{◌≡◌, ℕ, suc, ◌+◌, ◌-◌, ◌<◌, List, [], ◌∷◌, ◌++◌, Option, Some, None, Ok, Err, slice_set, codes, ap, ◌∙◌, arith}
use Rattle.std.specs.Prelude.{⊤}
use Rattle.std.specs.Option.{option_map_or}
use Rattle.cells.specs.declared.cell.Cell.{Cell}
use Rattle.array_text.specs.declared.fault.TextRefusal.{TextRefusal}
use Rattle.array_text.specs.Numbers.{cell_of}
use Rattle.array_text.specs.Walk.{Walked, Rest, word, ◌>>=◌, next_level, levels_from, cells_from, this_word}

one_more : (n k : ℕ) → k < n → n - k ≡ suc (n - (k + 1))
one_more n k h = omega arith

-- ---- levels

levels_from-next : (rank k : ℕ) (blocks : List (List ℕ)) (rest : Rest) → k < 4 → levels_from rank (4 - k) k blocks rest ≡ next_level rank rest >>= (λ (found, rest).
    option_map_or (λ block. levels_from rank (4 - (k + 1)) (k + 1) (slice_set blocks k block) rest) found (Ok ((k, blocks), rest)))
unfolding levels_from
levels_from-next rank k blocks rest h = ap (λ more. levels_from rank more k blocks rest) (one_more 4 k h)

abbrev goes_on : ℕ → ℕ → List (List ℕ) → Option (List ℕ) × Rest → Walked ((ℕ × List (List ℕ)) × Rest)
goes_on rank k blocks (found, rest) = option_map_or (λ block. levels_from rank (4 - (k + 1)) (k + 1) (slice_set blocks k block) rest) found (Ok ((k, blocks), rest))

pub levels_from-err : (rank k : ℕ) (blocks : List (List ℕ)) (rest : Rest) (r : TextRefusal) → k < 4 → next_level rank rest ≡ Err r → levels_from rank (4 - k) k blocks rest ≡ Err r
levels_from-err rank k blocks rest r h e = levels_from-next rank k blocks rest h ∙ ap (λ w. w >>= goes_on rank k blocks) e

pub levels_from-end : (rank k : ℕ) (blocks : List (List ℕ)) (rest after : Rest) → k < 4 → next_level rank rest ≡ Ok (None, after) → levels_from rank (4 - k) k blocks rest ≡ Ok ((k, blocks), after)
levels_from-end rank k blocks rest after h e = levels_from-next rank k blocks rest h ∙ ap (λ w. w >>= goes_on rank k blocks) e

pub levels_from-more : (rank k : ℕ) (blocks : List (List ℕ)) (rest after : Rest) (block : List ℕ) → k < 4 → next_level rank rest ≡ Ok (Some block, after)
    → levels_from rank (4 - k) k blocks rest ≡ levels_from rank (4 - (k + 1)) (k + 1) (slice_set blocks k block) after
levels_from-more rank k blocks rest after block h e = levels_from-next rank k blocks rest h ∙ ap (λ w. w >>= goes_on rank k blocks) e

abbrev then_none : List (List ℕ) → ⊤ × Rest → Walked ((ℕ × List (List ℕ)) × Rest)
then_none blocks (_, rest) = Ok ((4, blocks), rest)

levels_from-none : (rank k : ℕ) (blocks : List (List ℕ)) (rest : Rest) → k ≡ 4 → levels_from rank (4 - k) k blocks rest ≡ levels_from rank 0 4 blocks rest
levels_from-none rank k blocks rest e = ap (λ n. levels_from rank (4 - n) n blocks rest) e

pub levels_from-none-err : (rank k : ℕ) (blocks : List (List ℕ)) (rest : Rest) (r : TextRefusal) → k ≡ 4 → word (this_word (codes "cells")) rest ≡ Err r → levels_from rank (4 - k) k blocks rest ≡ Err r
unfolding levels_from
levels_from-none-err rank k blocks rest r e read = levels_from-none rank k blocks rest e ∙ ap (λ w. w >>= then_none blocks) read

pub levels_from-none-ok : (rank k : ℕ) (blocks : List (List ℕ)) (rest after : Rest) → k ≡ 4 → word (this_word (codes "cells")) rest ≡ Ok (tt, after) → levels_from rank (4 - k) k blocks rest ≡ Ok ((4, blocks), after)
unfolding levels_from
levels_from-none-ok rank k blocks rest after e read = levels_from-none rank k blocks rest e ∙ ap (λ w. w >>= then_none blocks) read

-- ---- cells

cells_from-next : (n k : ℕ) (before : List Cell) (rest : Rest) → k < n → cells_from (n - k) before rest ≡ word cell_of rest >>= (λ (cell, rest). cells_from (n - (k + 1)) (before ++ cell ∷ []) rest)
unfolding cells_from
cells_from-next n k before rest h = ap (λ more. cells_from more before rest) (one_more n k h)

abbrev then_cells : ℕ → ℕ → List Cell → Cell × Rest → Walked (List Cell × Rest)
then_cells n k before (cell, rest) = cells_from (n - (k + 1)) (before ++ cell ∷ []) rest

pub cells_from-err : (n k : ℕ) (before : List Cell) (rest : Rest) (r : TextRefusal) → k < n → word cell_of rest ≡ Err r → cells_from (n - k) before rest ≡ Err r
cells_from-err n k before rest r h e = cells_from-next n k before rest h ∙ ap (λ w. w >>= then_cells n k before) e

pub cells_from-more : (n k : ℕ) (before : List Cell) (rest after : Rest) (cell : Cell) → k < n → word cell_of rest ≡ Ok (cell, after)
    → cells_from (n - k) before rest ≡ cells_from (n - (k + 1)) (before ++ cell ∷ []) after
cells_from-more n k before rest after cell h e = cells_from-next n k before rest h ∙ ap (λ w. w >>= then_cells n k before) e

pub cells_from-end : (n k : ℕ) (before : List Cell) (rest : Rest) → n ≡ k → cells_from (n - k) before rest ≡ Ok (before, rest)
unfolding cells_from
cells_from-end n k before rest e = let none : n - k ≡ 0 = omega arith in ap (λ more. cells_from more before rest) none
