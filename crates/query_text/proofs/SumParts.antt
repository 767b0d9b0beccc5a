-- Sums of items: joining them one by one gives the sum of all.
use Rattle.std.proofs.Common.{◌≡◌, Bool, true, false, not, ◌&&◌, nat_le, ◌==◌, ℤ, List, [], ◌∷◌, ◌++◌, length, refl, sym, ap, ◌∙◌, append_assoc, append-nil, arith}
use Rattle.std.proofs.lemmas.List.{length-append}
use Rattle.std.proofs.lemmas.Bool.Decides.{nat_tests}
use Rattle.std.specs.Prelude.{Option, None, Some, is_some, option_and_then, option_to_list}
use Rattle.std.specs.List.{slice_get}
use Rattle.query_model.specs.declared.parts.Term.{Term}
use Rattle.query_text.specs.Form.{where_true, all_differ, constants_of, terms_of, sum_of_items}
use Rattle.query_text.specs.Sums.{SumParts, with_constant, with_term, has_term}
use Rattle.query_text.proofs.Differing.{differs, all_differ-push, all_differ_breaks}

-- they are of the same variable
abbrev pub same_term : Term → Term → Bool
same_term t u = t.var == u.var

-- the sum of these constants and terms, if at most one is a constant and no two terms have the same variable
abbrev pub sum_of_parts : List ℤ → List Term → Option SumParts
sum_of_parts cs ts = where_true (nat_le (length cs) 1 && all_differ same_term ts) (Some (record { constant = slice_get cs 0; terms = ts }))

-- no two terms have the same variable
abbrev pub has_once : List Term → Bool
has_once ts = all_differ same_term ts

pub sum_of_items-parts : (s : SumParts) (items : List SumParts) → sum_of_items (s ∷ items) ≡ sum_of_parts (option_to_list s.constant ++ constants_of items) (s.terms ++ terms_of items)
unfolding sum_of_items
sum_of_items-parts s items = refl

one_constant : (cs : List ℤ) → nat_le (length cs) 1 ≡ true → option_to_list (slice_get cs 0) ≡ cs
one_constant [] h = refl
one_constant (c ∷ []) h = refl
one_constant (c ∷ d ∷ cs) h = absurd (grind (arith, nat_tests))

more_constants : (cs ds : List ℤ) → nat_le (length cs) 1 ≡ false → nat_le (length (cs ++ ds)) 1 ≡ false
more_constants cs ds h = let e = length-append cs ds in grind (arith, nat_tests)

pub and_first : (a b : Bool) → a && b ≡ true → (a ≡ true) × (b ≡ true)
and_first true b e = (refl, e)
and_first false b e = absurd (cc)

both_break : (a b c d : Bool) → a && b ≡ false → (a ≡ false → c ≡ false) → (b ≡ false → d ≡ false) → c && d ≡ false
both_break false b c d e f g = ap (λ x. x && d) (f refl)
both_break true b true d e f g = g e
both_break true b false d e f g = refl

parts_split : (cs ds : List ℤ) (ts us : List Term) → sum_of_parts (cs ++ ds) (ts ++ us) ≡ option_and_then (λ (s : SumParts). sum_of_parts (option_to_list s.constant ++ ds) (s.terms ++ us)) (sum_of_parts cs ts)
parts_split cs ds ts us = by (nat_le (length cs) 1 && all_differ same_term ts) refl
  where
    by : (b : Bool) → nat_le (length cs) 1 && all_differ same_term ts ≡ b
        → sum_of_parts (cs ++ ds) (ts ++ us) ≡ option_and_then (λ (s : SumParts). sum_of_parts (option_to_list s.constant ++ ds) (s.terms ++ us)) (where_true b (Some (record { constant = slice_get cs 0; terms = ts })))
    by true e = ap (λ l. sum_of_parts (l ++ ds) (ts ++ us)) (sym (one_constant cs (and_first (nat_le (length cs) 1) (all_differ same_term ts) e).0))
    by false e =
        ap (λ b. where_true b (Some (record { constant = slice_get (cs ++ ds) 0; terms = ts ++ us })))
        (both_break (nat_le (length cs) 1) (all_differ same_term ts) (nat_le (length (cs ++ ds)) 1) (all_differ same_term (ts ++ us)) e (more_constants cs ds) (all_differ_breaks same_term ts us))

sum_of_two : (s i : SumParts) → sum_of_items (s ∷ i ∷ []) ≡ sum_of_parts (option_to_list s.constant ++ option_to_list i.constant) (s.terms ++ i.terms)
sum_of_two s i =
    sum_of_items-parts s (i ∷ [])
    ∙ ap (λ l. sum_of_parts (option_to_list s.constant ++ l) (s.terms ++ (i.terms ++ []))) (append-nil (option_to_list i.constant))
    ∙ ap (λ l. sum_of_parts (option_to_list s.constant ++ option_to_list i.constant) (s.terms ++ l)) (append-nil i.terms)

pub sum_splits : (s i : SumParts) (items : List SumParts) → sum_of_items (s ∷ i ∷ items) ≡ option_and_then (λ z. sum_of_items (z ∷ items)) (sum_of_items (s ∷ i ∷ []))
sum_splits s i items =
    let c = option_to_list s.constant in let d = option_to_list i.constant in
    sum_of_items-parts s (i ∷ items)
    ∙ ap (λ l. sum_of_parts l (s.terms ++ (i.terms ++ terms_of items))) (sym (append_assoc c d (constants_of items)))
    ∙ ap (sum_of_parts ((c ++ d) ++ constants_of items)) (sym (append_assoc s.terms i.terms (terms_of items)))
    ∙ parts_split (c ++ d) (constants_of items) (s.terms ++ i.terms) (terms_of items)
    ∙ ap (option_and_then (λ (z : SumParts). sum_of_parts (option_to_list z.constant ++ constants_of items) (z.terms ++ terms_of items))) (sym (sum_of_two s i))
    ∙ ap (λ h. option_and_then h (sum_of_items (s ∷ i ∷ []))) (λ j z. sym (sum_of_items-parts z items) j)

-- ---- a sum alone, and with one item

first_constant : (c : Option ℤ) → slice_get (option_to_list c ++ []) 0 ≡ c
first_constant None = refl
first_constant (Some z) = refl

few_constants : (c : Option ℤ) → nat_le (length (option_to_list c ++ [])) 1 ≡ true
few_constants None = refl
few_constants (Some z) = refl

stays : (c : Option ℤ) (ts : List Term) → has_once ts ≡ true → sum_of_parts (option_to_list c ++ []) (ts ++ []) ≡ Some (record { constant = c; terms = ts })
stays c ts h =
    ap (sum_of_parts (option_to_list c ++ [])) (append-nil ts)
    ∙ ap (λ b. where_true (b && has_once ts) (Some (record { constant = slice_get (option_to_list c ++ []) 0; terms = ts }))) (few_constants c)
    ∙ ap (λ b. where_true b (Some (record { constant = slice_get (option_to_list c ++ []) 0; terms = ts }))) h
    ∙ ap (λ k. Some (record { constant = k; terms = ts })) (first_constant c)

pub sum_stays : (s : SumParts) → has_once s.terms ≡ true → sum_of_items (s ∷ []) ≡ Some s
sum_stays s h = sum_of_items-parts s [] ∙ stays s.constant s.terms h

with_term_parts : (c : Option ℤ) (ts : List Term) (t : Term) → has_once ts ≡ true
    → sum_of_parts (option_to_list c ++ []) (ts ++ t ∷ []) ≡ where_true (differs same_term ts t) (Some (record { constant = c; terms = ts ++ t ∷ [] }))
with_term_parts c ts t h =
    ap (λ b. where_true (b && has_once (ts ++ t ∷ [])) (Some (record { constant = slice_get (option_to_list c ++ []) 0; terms = ts ++ t ∷ [] }))) (few_constants c)
    ∙ ap (λ b. where_true b (Some (record { constant = slice_get (option_to_list c ++ []) 0; terms = ts ++ t ∷ [] }))) (all_differ-push same_term ts t ∙ ap (λ b. b && differs same_term ts t) h)
    ∙ ap (λ k. where_true (differs same_term ts t) (Some (record { constant = k; terms = ts ++ t ∷ [] }))) (first_constant c)

-- with one more term, if its variable was in none
pub sum_with_term : (s : SumParts) (t : Term) → has_once s.terms ≡ true → sum_of_items (s ∷ record { constant = None; terms = t ∷ [] } ∷ []) ≡ where_true (not (has_term t.var s)) (Some (with_term t s))
unfolding sum_of_items
sum_with_term s t h = with_term_parts s.constant s.terms t h

with_constant_parts : (c : Option ℤ) (ts : List Term) (z : ℤ) → has_once ts ≡ true
    → sum_of_parts (option_to_list c ++ z ∷ []) (ts ++ []) ≡ where_true (not (is_some c)) (Some (record { constant = Some z; terms = ts }))
with_constant_parts None ts z h =
    ap (sum_of_parts (z ∷ [])) (append-nil ts) ∙ ap (λ b. where_true b (Some (record { constant = Some z; terms = ts }))) h
with_constant_parts (Some y) ts z h = refl

-- with a constant, if there was none
pub sum_with_constant : (s : SumParts) (z : ℤ) → has_once s.terms ≡ true → sum_of_items (s ∷ record { constant = Some z; terms = [] } ∷ []) ≡ where_true (not (is_some s.constant)) (Some (with_constant z s))
unfolding sum_of_items
sum_with_constant s z h = with_constant_parts s.constant s.terms z h
