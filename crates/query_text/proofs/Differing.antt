-- Lists in which no two are the same.
use Rattle.std.proofs.Common.{◌≡◌, Bool, true, false, not, ◌&&◌, ◌||◌, List, [], ◌∷◌, ◌++◌, refl, sym, ap, ◌∙◌}
use Rattle.std.proofs.lemmas.List.Folds.{list_any-append}
use Rattle.std.specs.List.{list_any}
use Rattle.query_text.specs.Form.{all_differ}

not_or : (a b : Bool) → not (a || b) ≡ not a && not b
not_or true b = refl
not_or false b = refl

and_false : (b : Bool) → b && false ≡ false
and_false true = refl
and_false false = refl

or_false : (b : Bool) → b || false ≡ b
or_false true = refl
or_false false = refl

and_swap : (a b c d : Bool) → (a && b) && (c && d) ≡ (a && c) && (b && d)
and_swap true true c d = refl
and_swap true false true d = refl
and_swap true false false d = refl
and_swap false b c d = refl

-- x is none of those before it
abbrev pub differs : {X : Type 0} → (X → X → Bool) → List X → X → Bool
differs same xs x = not (list_any (λ y. same y x) xs)

module _ {X : Type 0} (same : X → X → Bool) where
  pub all_differ-push : (xs : List X) (x : X) → all_differ same (xs ++ x ∷ []) ≡ all_differ same xs && differs same xs x
  all_differ-push [] x = refl
  all_differ-push (y ∷ ys) x =
      let any = list_any-append (same y) ys (x ∷ []) ∙ ap (λ b. list_any (same y) ys || b) (or_false (same y x)) in
      let head = ap not any ∙ not_or (list_any (same y) ys) (same y x) in
      let parts = and_swap (not (list_any (same y) ys)) (not (same y x)) (all_differ same ys) (differs same ys x) in
      ap (λ b. b && all_differ same (ys ++ x ∷ [])) head ∙ ap (λ b. (not (list_any (same y) ys) && not (same y x)) && b) (all_differ-push ys x) ∙ parts
      ∙ ap (λ b. (not (list_any (same y) ys) && all_differ same ys) && b) (sym (not_or (same y x) (list_any (λ z. same z x) ys)))

  breaks : (a b c d : Bool) → not a && c ≡ false → (c ≡ false → d ≡ false) → not (a || b) && d ≡ false
  breaks true b c d e f = refl
  breaks false b c d e f = ap (λ x. not b && x) (f e) ∙ and_false (not b)

  pub all_differ_breaks : (xs ys : List X) → all_differ same xs ≡ false → all_differ same (xs ++ ys) ≡ false
  all_differ_breaks [] ys e = absurd (cc)
  all_differ_breaks (x ∷ xs) ys e =
      ap (λ b. not b && all_differ same (xs ++ ys)) (list_any-append (same x) xs ys)
      ∙ breaks (list_any (same x) xs) (list_any (same x) ys) (all_differ same xs) (all_differ same (xs ++ ys)) e (all_differ_breaks xs ys)
