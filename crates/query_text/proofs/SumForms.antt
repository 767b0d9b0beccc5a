-- Sums: what is read item by item is the sum for which the items stand.
use Rattle.std.proofs.Common.{◌≡◌, ℕ, ◌^◌, Bool, true, false, not, ℤ, pos, List, [], ◌∷◌, refl, sym, subst}
use Rattle.std.proofs.lemmas.Option.{none-some}
use Rattle.std.proofs.lemmas.List.Elements.{All-head}
use Rattle.std.specs.Prelude.{Option, None, Some, All, is_some, option_and_then, option_map}
use Rattle.serde_json.specs.Data.{Data, Num, null, boolean, number, string, array, object}
use Rattle.serde_json.specs.Find.{as_integer}
use Rattle.lists.specs.Numbers.{IsWithin}
use Rattle.query_model.specs.declared.parts.Term.{Term}
use Rattle.query_model.specs.declared.parts.Variable.{Variable}
use Rattle.query_text.specs.declared.location.Location.{Location}
use Rattle.query_text.specs.declared.refusal.QueryRefusal.{QueryRefusal}
use Rattle.query_text.specs.Form.{where_true, every, product_form, constant_form, pair_form, item_form, sum_of_items}
use Rattle.query_text.specs.Json.{list_of, two_of, number_and_text_of}
use Rattle.query_text.specs.Lookup.{variable_named}
use Rattle.query_text.specs.Sums.{SumParts, empty_sum, with_constant, with_term, has_term}
use Rattle.query_text.specs.Walk.{walk_whole, walk_constant, walk_term, walk_product, walk_item, walk_fold}
use Rattle.query_text.proofs.Agrees.{Agrees, agrees_ok, agrees_none, agrees_form, agrees_found, agrees_then, agrees_map, agrees_unless}
use Rattle.query_text.proofs.ListForms.{then-then, agrees_fold, all_suffix}
use Rattle.query_text.proofs.Numbers.{IsUpTo, agrees_whole, small_10, small_31}
use Rattle.query_text.proofs.SumParts.{has_once, sum_splits, sum_stays, sum_with_term, sum_with_constant}
use Rattle.query_text.proofs.SumKept.{IsSmall, sum_kept}

-- a sum with one more item
joined : SumParts → SumParts → Option SumParts
joined s i = sum_of_items (s ∷ i ∷ [])

-- ---- a constant

constant_item : (s : SumParts) (o : Option ℤ) → has_once s.terms ≡ true
    → option_and_then (joined s) (option_map (λ z. record { constant = Some z; terms = [] }) o) ≡ where_true (not (is_some s.constant)) (option_map (λ z. with_constant z s) o)
unfolding joined
constant_item s (Some z) h = sum_with_constant s z h
constant_item s None h = by (is_some s.constant)
  where
    by : (b : Bool) → option_and_then (joined s) None ≡ where_true (not b) None
    by true = refl
    by false = refl

agrees_constant : (s : SumParts) (at : Location) (n : Num) → has_once s.terms ≡ true → Agrees IsSmall (option_and_then (joined s) (constant_form n)) (walk_constant at n s)
unfolding walk_constant
agrees_constant s at n h =
    agrees_form IsSmall _ _ _ (constant_item s (as_integer n) h)
    (agrees_unless IsSmall (is_some s.constant) (QueryRefusal.Repeated at) _ _
    (λ none. agrees_map (IsUpTo (2 ^ 31)) IsSmall (as_integer n) (walk_whole (2 ^ 31) at n) (λ z. with_constant z s) (agrees_whole (2 ^ 31) at n small_31) (λ z e small. small.constant)))

-- ---- a term

term_item : (s : SumParts) (factor : ℤ) (o : Option ℕ) → has_once s.terms ≡ true
    → option_and_then (joined s) (option_map (λ v. record { constant = None; terms = record { factor = factor; var = v } ∷ [] }) o)
    ≡ option_and_then (λ v. where_true (not (has_term v s)) (Some (with_term (record { factor = factor; var = v }) s))) o
unfolding joined
term_item s factor None h = refl
term_item s factor (Some v) h = sum_with_term s (record { factor = factor; var = v }) h

agrees_term : (s : SumParts) (variables : List Variable) (at : Location) (factor : ℤ) (text : List ℕ) → has_once s.terms ≡ true
    → Agrees IsSmall (option_and_then (joined s) (product_form variables factor text)) (walk_term variables at factor text s)
unfolding walk_term
agrees_term s variables at factor text h =
    agrees_form IsSmall _ _ _ (term_item s factor (variable_named text variables) h)
    (agrees_found IsSmall (QueryRefusal.Unbound at) (variable_named text variables) _ _
    (λ v e. agrees_unless IsSmall (has_term v s) (QueryRefusal.Repeated at) _ _ (λ none. agrees_ok IsSmall (with_term (record { factor = factor; var = v }) s))))

-- ---- a factor with a name

factor_kept : (s : SumParts) (variables : List Variable) (factor : ℤ) (text : List ℕ) (z : SumParts) → option_and_then (joined s) (product_form variables factor text) ≡ Some z → IsSmall z → IsWithin factor 1024
unfolding joined
factor_kept s variables factor text z e small = by (variable_named text variables) e
  where
    P : Term → Type 0
    P t = IsWithin t.factor 1024

    by : (o : Option ℕ) → option_and_then (joined s) (option_map (λ v. record { constant = None; terms = record { factor = factor; var = v } ∷ [] }) o) ≡ Some z → IsWithin factor 1024
    by None e = absurd (none-some z e)
    by (Some v) e =
        let t : Term = record { factor = factor; var = v } in
        let kept = sum_kept s (record { constant = None; terms = t ∷ [] } ∷ []) z e in
        All-head P t [] (all_suffix P s.terms (t ∷ []) (subst (All P) (sym kept.1) small.factors))

agrees_product : (s : SumParts) (variables : List Variable) (at : Location) (ds : List Data) → has_once s.terms ≡ true
    → Agrees IsSmall (option_and_then (joined s) (pair_form variables ds)) (walk_product variables at s ds)
unfolding walk_product
agrees_product s variables at ds h =
    agrees_form IsSmall _ _ _ (then-then (joined s) _ (option_and_then number_and_text_of (two_of ds)))
    (agrees_found IsSmall (QueryRefusal.Shape at) (option_and_then number_and_text_of (two_of ds)) _ _
    (λ p e. agrees_form IsSmall _ _ _ (then-then (joined s) (λ factor. product_form variables factor p.1) (as_integer p.0))
    (agrees_then (IsUpTo 1024) IsSmall (as_integer p.0) (walk_whole 1024 at p.0) (λ factor. option_and_then (joined s) (product_form variables factor p.1)) (λ factor. walk_term variables at factor p.1 s)
    (agrees_whole 1024 at p.0 small_10) (λ factor f. agrees_term s variables at factor p.1 h) (λ factor z f g small. factor_kept s variables factor p.1 z g small))))

-- ---- an item, and all

agrees_item : (variables : List Variable) (at : Location) (s : SumParts) (d : Data) → has_once s.terms ≡ true
    → Agrees IsSmall (option_and_then (joined s) (item_form variables d)) (walk_item variables at s d)
unfolding item_form walk_item
agrees_item variables at s null h = agrees_none IsSmall (QueryRefusal.Shape at)
agrees_item variables at s (boolean b) h = agrees_none IsSmall (QueryRefusal.Shape at)
agrees_item variables at s (number n) h = agrees_constant s at n h
agrees_item variables at s (string text) h = agrees_term s variables at (pos 1) text h
agrees_item variables at s (array ds) h = agrees_product s variables at (list_of ds) h
agrees_item variables at s (object ms) h = agrees_none IsSmall (QueryRefusal.Shape at)

-- the sum of the items
pub agrees_items : (variables : List Variable) (at : Location) (ds : List Data)
    → Agrees IsSmall (option_and_then sum_of_items (every (item_form variables) ds)) (walk_fold (walk_item variables at) empty_sum ds)
unfolding joined sum_of_items
agrees_items variables at ds =
    agrees_fold (λ s items. sum_of_items (s ∷ items)) (item_form variables) (walk_item variables at) IsSmall (λ s. has_once s.terms ≡ true)
    sum_stays sum_splits (λ s i z h e. (sum_kept s (i ∷ []) z e).0) (λ s items z e. (sum_kept s items z e).2) (agrees_item variables at) ds empty_sum refl
