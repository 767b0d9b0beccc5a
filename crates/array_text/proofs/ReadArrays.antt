-- The words of a text that is read state the layout and the cells that are read.
-- Used by the proofs of `what_is_read_is_stated` and `what_is_read_has_a_plain_text`.
use Rattle.std.proofs.Common.{◌≡◌, ℕ, zero, suc, ◌^◌, nat_lt, Bool, true, false, cond, List, [], ◌∷◌, ◌++◌, length, map, Option, Some, None, Ok, Err, All, refl, ap, sym, subst, ◌∙◌}
use Rattle.std.specs.Prelude.{⊤}
use Rattle.std.proofs.lemmas.List.{append_assoc, append-nil}
use Rattle.lists.specs.Numbers.{product}
use Rattle.lists.specs.Rules.{first_broken}
use Rattle.cells.specs.declared.cell.Cell.{Cell}
use Rattle.layouts.specs.declared.numbers.LayoutNumbers.{LayoutNumbers}
use Rattle.layouts.specs.declared.refusal.LayoutRefusal.{LayoutRefusal}
use Rattle.layouts.specs.Rules.{layout_rules, IsLayout}
use Rattle.array_text.specs.declared.fault.TextRefusal.{TextRefusal}
use Rattle.array_text.specs.declared.fault.TextRefusal.TheVariants.{TooLong}
use Rattle.array_text.specs.Contents.{cell, WordsState}
use Rattle.array_text.specs.Numbers.{cell_of}
use Rattle.array_text.specs.Walk.{Walked, Rest, word, layout_from, unless_broken, cells_from, end_from, array_from, read_words, stated_array}
use Rattle.array_text.specs.Words.{words}
use Rattle.array_text.proofs.ReadLayouts.{Between, between_word, between_then, ReadsLayout, reads_layout}
use Rattle.array_text.proofs.Steps.{Write, then_ok, same_value}

-- the law `rules_make_a_layout`
abbrev pub RulesMakeALayout : Type 0
RulesMakeALayout = (l : LayoutNumbers) → length l.extents ≡ 3 → length l.chunk ≡ 3 → length l.blocks ≡ 4 → All (λ b. length b ≡ 3) l.blocks
    → first_broken (layout_rules l) ≡ None → IsLayout l

-- ---- the cells

record ReadsCells (n : ℕ) (before found : List Cell) (rest after : Rest) : Type 0 where
  cells : List Cell
  is : found ≡ before ++ cells
  count : length cells ≡ n
  words : Between (map cell cells) rest after

reads_cells : (n : ℕ) (before found : List Cell) (rest after : Rest) → cells_from n before rest ≡ Ok (found, after) → ReadsCells n before found rest after
unfolding cells_from
reads_cells zero before found rest after e =
    let same = same_value (before, rest) (found, after) e in
    subst (λ (p : List Cell × Rest). ReadsCells 0 before p.0 rest p.1) same
    (record { cells = []; is = sym (append-nil before); count = refl; words = λ others all. all })
reads_cells (suc n) before found rest after e =
    let a = then_ok (word cell_of rest) _ (found, after) e in
    let c = a.0.0 in
    let others = reads_cells n (before ++ c ∷ []) found a.0.1 after a.2 in
    record {
      cells = c ∷ others.cells;
      is = others.is ∙ append_assoc before (c ∷ []) others.cells;
      count = ap suc others.count;
      words = between_then (cell c ∷ []) (map cell others.cells) rest a.0.1 after (between_word cell_of c (cell c) rest a.0.1 (λ w f. f) a.1) others.words;
    }

-- ---- the whole

unbroken : (o : Option LayoutRefusal) (x : ⊤) → unless_broken o ≡ Ok x → o ≡ None
unbroken None x e = refl
unbroken (Some r) x e = absurd (cc)

ended : (n : ℕ) (ws : List (List ℕ)) (x : ⊤) → end_from n ws ≡ Ok x → ws ≡ []
ended n [] x e = refl
ended n (w ∷ ws) x e = absurd (cc)

reads_array : RulesMakeALayout → (ws : List (List ℕ)) (l : LayoutNumbers) (rest : Rest) (found : LayoutNumbers × List Cell)
    → ReadsLayout l (record { next = 1; words = ws }) rest → array_from l rest ≡ Ok found → WordsState ws found.0 found.1
unfolding array_from
reads_array make ws l rest found layout e =
    let a = then_ok (unless_broken (first_broken (layout_rules l))) _ found e in
    let b = then_ok (cells_from (product l.extents) [] rest) _ found a.2 in
    let cells = reads_cells (product l.extents) [] b.0.0 rest b.0.1 b.1 in
    let c = then_ok (end_from b.0.1.next b.0.1.words) _ found b.2 in
    let none = ended b.0.1.next b.0.1.words c.0 c.1 in
    subst (λ (p : LayoutNumbers × List Cell). WordsState ws p.0 p.1) (ap (λ cs. (l, cs)) (sym cells.is) ∙ same_value (l, b.0.0) found c.2)
    (record {
      layout = make l layout.extents layout.chunk layout.levels layout.blocks (unbroken (first_broken (layout_rules l)) a.0 a.1);
      count = cells.count;
      items = layout.words (map cell cells.cells) (subst (λ items. Write items rest.words) (append-nil (map cell cells.cells)) (cells.words [] (subst (Write []) (sym none) tt)));
    })

reads_words : RulesMakeALayout → (ws : List (List ℕ)) (l : LayoutNumbers) (cells : List Cell) → read_words ws ≡ Ok (l, cells) → WordsState ws l cells
unfolding read_words
reads_words make ws l cells e =
    let a = then_ok (layout_from (record { next = 1; words = ws })) _ (l, cells) e in
    reads_array make ws a.0.0 a.0.1 (l, cells) (reads_layout a.0.0 (record { next = 1; words = ws }) a.0.1 a.1) a.2

not_long : {X : Type 0} (long : Bool) (r : TextRefusal) (w : Walked X) (x : X) → cond long (Err r) w ≡ Ok x → w ≡ Ok x
not_long true r w x e = absurd (cc)
not_long false r w x e = e

pub stated_array-state : RulesMakeALayout → (bytes : List ℕ) (l : LayoutNumbers) (cells : List Cell) → stated_array bytes ≡ Ok (l, cells) → WordsState (words bytes) l cells
unfolding stated_array
stated_array-state make bytes l cells e =
    reads_words make (words bytes) l cells (not_long (nat_lt (2 ^ 30) (length bytes)) (TooLong (length bytes)) (read_words (words bytes)) (l, cells) e)
