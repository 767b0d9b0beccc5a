-- Words that state a layout and cells are read as these.
-- Used by the proofs of `PlainTexts` and `what_is_stated_is_read`.
use Rattle.std.proofs.Common.{◌≡◌, ℕ, ◌^◌, ◌≤◌, List, [], ◌∷◌, ◌++◌, length, map, cond, Ok, Err, refl, ap, sym, subst, ◌∙◌}
use Rattle.std.proofs.lemmas.Bool.{le-ltb}
use Rattle.std.proofs.lemmas.List.{append_assoc, append-nil}
use Rattle.lists.specs.Numbers.{product}
use Rattle.lists.specs.Rules.{first_broken}
use Rattle.cells.specs.declared.cell.Cell.{Cell}
use Rattle.layouts.specs.declared.numbers.LayoutNumbers.{LayoutNumbers}
use Rattle.layouts.specs.Rules.{layout_rules, IsLayout}
use Rattle.array_text.specs.declared.fault.TextRefusal.TheVariants.{TooLong}
use Rattle.array_text.specs.Contents.{Item, cell, WordsState}
use Rattle.array_text.specs.Numbers.{cell_of}
use Rattle.array_text.specs.Walk.{Rest, word, layout_from, unless_broken, cells_from, end_from, array_from, read_words, stated_array}
use Rattle.array_text.specs.Words.{words}
use Rattle.array_text.proofs.StatedLayouts.{passes_layout}
use Rattle.array_text.proofs.Steps.{Write, Passes, passes_here, passes_then, passes_word, passes_same, then_is}

passes_cells : (cells before : List Cell) (others : List Item) (rest : Rest) → Write (map cell cells ++ others) rest.words
    → Passes (cells_from (length cells) before rest) (before ++ cells) others
unfolding cells_from
passes_cells [] before others rest all =
    passes_same _ before (before ++ []) others (sym (append-nil before)) (passes_here before others rest all)
passes_cells (c ∷ cells) before others rest all =
    passes_then (word cell_of rest) _ c (before ++ c ∷ cells) (map cell cells ++ others) others
    (passes_word cell_of c (cell c) (map cell cells ++ others) rest (λ w e. e) all)
    (λ r left. passes_same _ ((before ++ c ∷ []) ++ cells) (before ++ c ∷ cells) others (append_assoc before (c ∷ []) cells)
    (passes_cells cells (before ++ c ∷ []) others r left))

none_left : (ws : List (List ℕ)) → Write [] ws → ws ≡ []
none_left [] all = refl
none_left (w ∷ ws) all = absurd all

array_from-is : (l : LayoutNumbers) (cells : List Cell) (rest : Rest) → IsLayout l → length cells ≡ product l.extents → Write (map cell cells) rest.words
    → array_from l rest ≡ Ok (l, cells)
unfolding array_from
array_from-is l cells rest is count all =
    let p = passes_cells cells [] [] rest (subst (λ items. Write items rest.words) (sym (append-nil (map cell cells))) all) in
    then_is (unless_broken (first_broken (layout_rules l))) _ tt (l, cells) (ap unless_broken is.rules)
    (then_is (cells_from (product l.extents) [] rest) _ (cells, p.after) (l, cells) (ap (λ n. cells_from n [] rest) (sym count) ∙ p.is)
    (then_is (end_from p.after.next p.after.words) _ tt (l, cells) (ap (end_from p.after.next) (none_left p.after.words p.left)) refl))

read_words-is : (ws : List (List ℕ)) (l : LayoutNumbers) (cells : List Cell) → WordsState ws l cells → read_words ws ≡ Ok (l, cells)
unfolding read_words
read_words-is ws l cells state =
    let p = passes_layout l (map cell cells) (record { next = 1; words = ws }) state.layout state.items in
    then_is (layout_from (record { next = 1; words = ws })) _ (l, p.after) (l, cells) p.is (array_from-is l cells p.after state.layout state.count p.left)

pub stated_array-is : (bytes : List ℕ) (l : LayoutNumbers) (cells : List Cell) → length bytes ≤ 2 ^ 30 → WordsState (words bytes) l cells
    → stated_array bytes ≡ Ok (l, cells)
unfolding stated_array
stated_array-is bytes l cells fits state =
    ap (λ b. cond b (Err (TooLong (length bytes))) (read_words (words bytes))) (le-ltb (2 ^ 30) (length bytes) fits) ∙ read_words-is (words bytes) l cells state
