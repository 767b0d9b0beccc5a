-- What stays true of a sum when further items are added.
use Rattle.std.proofs.Common.{◌≡◌, ℕ, ◌^◌, ◌≤◌, true, ◌&&◌, nat_le, ℤ, List, ◌∷◌, ◌++◌, length, sym, ap, subst, ◌∙◌, arith}
use Rattle.std.specs.Prelude.{Option, None, Some, All, IfSome, option_to_list}
use Rattle.std.specs.List.{slice_get}
use Rattle.lists.specs.Numbers.{IsWithin}
use Rattle.query_model.specs.declared.parts.Term.{Term}
use Rattle.query_text.specs.Form.{constants_of, terms_of, sum_of_items}
use Rattle.query_text.specs.Sums.{SumParts}
use Rattle.query_text.proofs.ListForms.{where_some, all_prefix}
use Rattle.query_text.proofs.SumParts.{has_once, sum_of_items-parts, and_first}

-- its constant is within 2^31 and its factors within 1024
pub record IsSmall (s : SumParts) : Type 0 where
  pub constant : IfSome s.constant (λ z. IsWithin z (2 ^ 31))
  pub factors : All (λ (t : Term). IsWithin t.factor 1024) s.terms

kept_constant : (P : ℤ → Type 0) (c : Option ℤ) (cs : List ℤ) → IfSome (slice_get (option_to_list c ++ cs) 0) P → IfSome c P
kept_constant P None cs h = tt
kept_constant P (Some z) cs h = h

pub sum_kept : (s : SumParts) (items : List SumParts) (z : SumParts) → sum_of_items (s ∷ items) ≡ Some z → (has_once z.terms ≡ true) × (s.terms ++ terms_of items ≡ z.terms) × (IsSmall z → IsSmall s)
sum_kept s items z e =
    let cs = option_to_list s.constant ++ constants_of items in let ts = s.terms ++ terms_of items in
    let made : SumParts = record { constant = slice_get cs 0; terms = ts } in
    let w = where_some (nat_le (length cs) 1 && has_once ts) made z (sym (sum_of_items-parts s items) ∙ e) in
    let terms = ap (λ (y : SumParts). y.terms) w.1 in (
      subst (λ l. has_once l ≡ true) terms (and_first (nat_le (length cs) 1) (has_once ts) w.0).1,
      terms,
      λ small. let before = subst IsSmall (sym w.1) small in
          record { constant = kept_constant (λ y. IsWithin y (2 ^ 31)) s.constant (constants_of items) before.constant; factors = all_prefix (λ (t : Term). IsWithin t.factor 1024) s.terms (terms_of items) before.factors },
    )

-- a sum of items has at most one constant, and the terms of all items
pub sum_made : (items : List SumParts) (s : SumParts) → sum_of_items items ≡ Some s → (length (constants_of items) ≤ 1) × (terms_of items ≡ s.terms)
unfolding sum_of_items
sum_made items s e =
    let made : SumParts = record { constant = slice_get (constants_of items) 0; terms = terms_of items } in
    let w = where_some (nat_le (length (constants_of items)) 1 && has_once (terms_of items)) made s e in
    (at_most (length (constants_of items)) 1 (and_first (nat_le (length (constants_of items)) 1) (has_once (terms_of items)) w.0).0, ap (λ (y : SumParts). y.terms) w.1)
  where
    at_most : (m n : ℕ) → nat_le m n ≡ true → m ≤ n
    at_most m n h = grind (arith, h)
