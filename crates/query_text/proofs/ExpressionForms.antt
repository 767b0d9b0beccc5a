-- Expressions: what is read of them is what they stand for.
use Rattle.std.proofs.Common.{◌≡◌, ℕ, ◌+◌, ◌-◌, ◌^◌, ◌≤◌, false, nat_lt, ◌==◌, ℤ, pos, unsigned_abs, List, [], ◌∷◌, length, replicate, sym, ap, subst, ◌∙◌, arith}
use Rattle.std.proofs.Math.Seq.{take-append_seam}
use Rattle.std.proofs.lemmas.Bool.Decides.{nat_tests}
use Rattle.std.proofs.lemmas.Int.{ints}
use Rattle.std.proofs.lemmas.List.{length-append}
use Rattle.std.proofs.lemmas.List.Elements.{All-weaker}
use Rattle.std.proofs.lemmas.Option.{none-some, same_Some}
use Rattle.std.specs.Prelude.{Option, None, Some, Ok, All, IfSome, unwrap_or, option_and_then, option_map, option_to_list}
use Rattle.serde_json.specs.Data.{Data, null, boolean, number, string, array, object}
use Rattle.serde_json.specs.Find.{as_integer}
use Rattle.lists.specs.Numbers.{IsWithin}
use Rattle.query_model.specs.declared.parts.Expr.{Expr}
use Rattle.query_model.specs.declared.parts.Term.{Term}
use Rattle.query_model.specs.declared.parts.Variable.{Variable}
use Rattle.query_model.specs.Rules.{IsTerm, IsExpr, no_term, constant_expr}
use Rattle.query_text.specs.declared.location.Location.{Location}
use Rattle.query_text.specs.declared.refusal.QueryRefusal.{QueryRefusal}
use Rattle.query_text.specs.Form.{every, product_form, item_form, constants_of, terms_of, sum_of_items, sum_form, expr_form}
use Rattle.query_text.specs.Json.{list_of, two_of, number_and_text_of}
use Rattle.query_text.specs.Lookup.{variable_named}
use Rattle.query_text.specs.Sums.{SumParts, empty_sum, with_term, expr_of}
use Rattle.query_text.specs.Walk.{◌>>=◌, or_refuse, walk_whole, walk_term, walk_sum, walk_expr, walk_variable_alone}
use Rattle.query_text.proofs.Agrees.{Agrees, agrees_ok, agrees_none, agrees_map, agrees_unless, agrees_within, map_some}
use Rattle.query_text.proofs.ListForms.{then_some}
use Rattle.query_text.proofs.Numbers.{IsUpTo, agrees_whole, small_31}
use Rattle.query_text.proofs.SumKept.{IsSmall, sum_made}
use Rattle.query_text.proofs.SumForms.{agrees_items}

-- ---- how many items there are

-- how many parts a sum has
size : SumParts → ℕ
size s = length (option_to_list s.constant) + length s.terms

product_size : (variables : List Variable) (factor : ℤ) (text : List ℕ) (s : SumParts) → product_form variables factor text ≡ Some s → size s ≡ 1
unfolding size
product_size variables factor text s e = let m = map_some (λ v. record { constant = None; terms = record { factor = factor; var = v } ∷ [] }) (variable_named text variables) s e in ap size (sym m.2)

item_size : (variables : List Variable) (d : Data) (s : SumParts) → item_form variables d ≡ Some s → size s ≡ 1
unfolding size item_form
item_size variables null s e = absurd (none-some s e)
item_size variables (boolean b) s e = absurd (none-some s e)
item_size variables (number n) s e = let m = map_some (λ z. record { constant = Some z; terms = [] }) (as_integer n) s e in ap size (sym m.2)
item_size variables (string text) s e = product_size variables (pos 1) text s e
item_size variables (array ds) s e =
    let p = then_some _ (option_and_then number_and_text_of (two_of (list_of ds))) s e in
    let f = then_some (λ factor. product_form variables factor p.0.1) (as_integer p.0.0) s p.2 in
    product_size variables f.0 p.0.1 s f.2
item_size variables (object ms) s e = absurd (none-some s e)

items_size : (variables : List Variable) (ds : List Data) (items : List SumParts) → every (item_form variables) ds ≡ Some items → length (constants_of items) + length (terms_of items) ≡ length ds
unfolding size
items_size variables [] items e = ap (λ l. length (constants_of l) + length (terms_of l)) (sym (same_Some [] items e))
items_size variables (d ∷ ds) items e =
    let p = then_some (λ s. option_map (λ rest. s ∷ rest) (every (item_form variables) ds)) (item_form variables d) items e in
    let m = map_some (λ rest. p.0 ∷ rest) (every (item_form variables) ds) items p.2 in
    let one = item_size variables d p.0 p.1 in
    let rest = items_size variables ds m.0 m.1 in
    let constants = length-append (option_to_list p.0.constant) (constants_of m.0) in
    let terms = length-append p.0.terms (terms_of m.0) in
    ap (λ l. length (constants_of l) + length (terms_of l)) (sym m.2) ∙ omega (arith, constants, terms, one, rest)

-- ---- what an expression says about its sum

constant_within : (P : ℤ → Type 0) (c : Option ℤ) → P (unwrap_or c (pos 0)) → IfSome c P
constant_within P None h = tt
constant_within P (Some z) h = h

abs_within : (z : ℤ) (m : ℕ) → unsigned_abs z ≤ m → IsWithin z m
abs_within z m h = record { low = grind (arith, ints); high = grind (arith, ints) }

sum_small : (n : ℕ) (s : SumParts) → IsExpr n (expr_of s) → IsSmall s
sum_small n s e = record {
  constant = constant_within (λ z. IsWithin z (2 ^ 31)) s.constant e.constant;
  factors =
      All-weaker (IsTerm n) (λ (t : Term). IsWithin t.factor 1024) (λ t h. abs_within t.factor 1024 h.factor) s.terms
      (subst (All (IsTerm n)) (take-append_seam s.terms (replicate (8 - length s.terms) no_term)) e.terms);
}

not_more : (constants terms all : ℕ) → constants ≤ 1 → terms ≤ 8 → constants + terms ≡ all → nat_lt 9 all ≡ false
not_more constants terms all c t e = grind (arith, nat_tests)

few_items : (n : ℕ) (variables : List Variable) (ds : List Data) (e : Expr) → option_map expr_of (option_and_then sum_of_items (every (item_form variables) ds)) ≡ Some e → IsExpr n e → nat_lt 9 (length ds) ≡ false
few_items n variables ds e h rules =
    let m = map_some expr_of (option_and_then sum_of_items (every (item_form variables) ds)) e h in
    let p = then_some sum_of_items (every (item_form variables) ds) m.0 m.1 in
    let made = sum_made p.0 m.0 p.2 in
    not_more (length (constants_of p.0)) (length (terms_of p.0)) (length ds) made.0
    (subst (λ (k : ℕ). k ≤ 8) (sym (ap length made.1 ∙ ap (λ (x : Expr). x.count) m.2)) rules.count) (items_size variables ds p.0 p.1)

agrees_sum : (n : ℕ) (variables : List Variable) (at : Location) (ds : List Data) → Agrees (IsExpr n) (sum_form variables ds) (walk_sum variables at ds)
unfolding sum_form walk_sum
agrees_sum n variables at ds =
    agrees_unless (IsExpr n) (length ds == 0) (QueryRefusal.Shape at) _ _
    (λ some. agrees_within (IsExpr n) (nat_lt 9 (length ds)) (QueryRefusal.TooMany at) _ _ tt (few_items n variables ds)
    (λ few. agrees_map IsSmall (IsExpr n) (option_and_then sum_of_items (every (item_form variables) ds)) _ expr_of (agrees_items variables at ds) (λ s e. sum_small n s)))

-- ---- expressions

agrees_alone : (n : ℕ) (variables : List Variable) (at : Location) (text : List ℕ) → Agrees (IsExpr n) (option_map expr_of (product_form variables (pos 1) text)) (walk_variable_alone variables at text)
unfolding walk_term
agrees_alone n variables at text = by (variable_named text variables)
  where
    by : (o : Option ℕ)
        → Agrees (IsExpr n) (option_map expr_of (option_map (λ v. record { constant = None; terms = record { factor = pos 1; var = v } ∷ [] }) o))
        ((or_refuse (QueryRefusal.Unbound at) o >>= (λ v. Ok (with_term (record { factor = pos 1; var = v }) empty_sum))) >>= (λ sum. Ok (expr_of sum)))
    by None = agrees_none (IsExpr n) (QueryRefusal.Unbound at)
    by (Some v) = agrees_ok (IsExpr n) (expr_of (record { constant = None; terms = record { factor = pos 1; var = v } ∷ [] }))

pub agrees_expr : (n : ℕ) (variables : List Variable) (at : Location) (d : Data) → Agrees (IsExpr n) (expr_form variables d) (walk_expr variables at d)
unfolding expr_form walk_expr
agrees_expr n variables at null = agrees_none (IsExpr n) (QueryRefusal.Shape at)
agrees_expr n variables at (boolean b) = agrees_none (IsExpr n) (QueryRefusal.Shape at)
agrees_expr n variables at (number m) = agrees_map (IsUpTo (2 ^ 31)) (IsExpr n) (as_integer m) (walk_whole (2 ^ 31) at m) constant_expr (agrees_whole (2 ^ 31) at m small_31) (λ z e h. h.constant)
agrees_expr n variables at (string text) = agrees_alone n variables at text
agrees_expr n variables at (array ds) = agrees_sum n variables at (list_of ds)
agrees_expr n variables at (object ms) = agrees_none (IsExpr n) (QueryRefusal.Shape at)
