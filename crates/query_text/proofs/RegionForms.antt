-- The regions: what is read of them is what they stand for.
use Rattle.std.proofs.Common.{ℕ, ◌-◌, Bool, true, false, not, ◌==◌, pos, List, ◌++◌, length, replicate, refl, ap, ◌∙◌}
use Rattle.std.specs.Prelude.{Option, None, Some, Ok, All, option_and_then, option_map, codes}
use Rattle.std.specs.Str.{bytes_eq}
use Rattle.serde_json.specs.Data.{Data}
use Rattle.serde_json.specs.Find.{get}
use Rattle.query_model.specs.declared.parts.Expr.{Expr}
use Rattle.query_model.specs.declared.parts.Name.{Name}
use Rattle.query_model.specs.declared.parts.Region.{Region}
use Rattle.query_model.specs.declared.parts.Variable.{Variable}
use Rattle.query_model.specs.NameForm.{name_of}
use Rattle.query_model.specs.Rules.{IsExpr, IsRegion, constant_expr}
use Rattle.query_model.specs.Text.{name_bytes}
use Rattle.query_text.specs.declared.location.Location.{Location}
use Rattle.query_text.specs.declared.refusal.QueryRefusal.{QueryRefusal}
use Rattle.query_text.specs.Form.{where_true, every, all_differ, is_object_of, name_at, items_at, expr_form, dimensions_form, region_form, regions_form}
use Rattle.query_text.specs.Locations as location
use Rattle.query_text.specs.declared.location.Field.{Field}
use Rattle.query_text.specs.declared.location.Part.{Part}
use Rattle.query_text.specs.Walk.{◌>>=◌, or_refuse, refuse_if, walk_each, walk_dimension, walk_dimensions, then_padded, walk_region, region_keys, next_number}
use Rattle.query_text.proofs.Agrees.{Agrees, agrees_none, agrees_form, agrees_map, agrees_two}
use Rattle.query_text.proofs.ListForms.{then-then, then-where, all_prefix, agrees_list, agrees_every}
use Rattle.query_text.proofs.Differing.{differs, all_differ-push, all_differ_breaks}
use Rattle.query_text.proofs.NewNames.{name_of_two, agrees_new_name}
use Rattle.query_text.proofs.Lookups.{name_bytes-name_of}
use Rattle.query_text.proofs.Objects.{agrees_object}
use Rattle.query_text.proofs.ExpressionForms.{agrees_expr}

-- an expression for each dimension, followed by constants
module _ (rank n : ℕ) (variables : List Variable) (rest region : ℕ) (at : Location) where
  -- the number in each dimension that is not used
  padding : List Expr
  padding = replicate (3 - rank) (constant_expr (pos rest))

  agrees_padded : (ds : List Data) (b : Bool)
      → Agrees (All (IsExpr n)) (where_true b (option_map (λ exprs. exprs ++ padding) (every (expr_form variables) ds)))
      ((refuse_if (not b) (QueryRefusal.Dimensions region (length ds)) >>= (λ _. walk_each (walk_dimension variables at) ds)) >>= (λ exprs. Ok (exprs ++ padding)))
  agrees_padded ds true =
      agrees_map (All (IsExpr n)) (All (IsExpr n)) (every (expr_form variables) ds) (walk_each (walk_dimension variables at) ds) (λ exprs. exprs ++ padding)
      (agrees_every (expr_form variables) (walk_dimension variables at) (IsExpr n) (λ before d. agrees_expr n variables (location.dimension at (next_number before)) d) ds) (λ exprs e all. all_prefix (IsExpr n) exprs padding all)
  agrees_padded ds false = agrees_none (All (IsExpr n)) (QueryRefusal.Dimensions region (length ds))

  agrees_dimensions : (key : List ℕ) (d : Data) → Agrees (All (IsExpr n)) (dimensions_form rank variables rest key d) (then_padded rank rest (walk_dimensions rank variables region at (get key d)))
  unfolding padding dimensions_form walk_dimensions
  agrees_dimensions key d = by (items_at key d)
    where
      by : (o : Option (List Data))
          → Agrees (All (IsExpr n)) (option_and_then (λ ds. where_true (length ds == rank) (option_map (λ exprs. exprs ++ padding) (every (expr_form variables) ds))) o)
          ((or_refuse (QueryRefusal.Shape at) o >>= (λ ds. refuse_if (not (length ds == rank)) (QueryRefusal.Dimensions region (length ds)) >>= (λ _. walk_each (walk_dimension variables at) ds))) >>= (λ exprs. Ok (exprs ++ padding)))
      by None = agrees_none (All (IsExpr n)) (QueryRefusal.Shape at)
      by (Some ds) = agrees_padded ds (length ds == rank)

-- they have the same name
same_regions : Region → Region → Bool
same_regions r s = bytes_eq (name_bytes r.name) (name_bytes s.name)

agrees_region : (rank n : ℕ) (variables : List Variable) (before : List Region) (d : Data)
    → Agrees (IsRegion rank n) (option_and_then (λ r. where_true (differs same_regions before r) (Some r)) (region_form rank variables d)) (walk_region rank variables before d)
unfolding same_regions region_form walk_region
agrees_region rank n variables before d =
    let i = next_number before in
    let P = IsRegion rank n in
    let unused = λ (r : Region). where_true (differs same_regions before r) (Some r) in
    let at = dimensions_form rank variables 0 (codes "at") d in
    let lengths = dimensions_form rank variables 1 (codes "length") d in
    let made = λ (name : Name). option_and_then (λ at. option_map (λ lengths. record { name = name; at = at; length = lengths }) lengths) at in
    agrees_form P _ _ _
    (then-where unused (is_object_of region_keys d) (option_and_then made (name_at (codes "name") d)) ∙ ap (where_true (is_object_of region_keys d)) (then-then unused made (name_at (codes "name") d)))
    (agrees_object P region_keys (location.item Part.Regions i) d _ _
    (agrees_new_name P (λ (r : Region). name_bytes r.name) before (location.field Field.RegionName i) made _
    (λ text. name_of_two (λ at lengths. record { name = name_of text; at = at; length = lengths }) (λ (r : Region). name_bytes r.name) text (λ at lengths. name_bytes-name_of text) at lengths)
    (λ text. agrees_two (All (IsExpr n)) (All (IsExpr n)) P (λ at lengths. record { name = name_of text; at = at; length = lengths }) _ _ (λ at. lengths) _
    (agrees_dimensions rank n variables 0 i (location.field Field.RegionAt i) (codes "at") d) (λ at e. agrees_dimensions rank n variables 1 i (location.field Field.RegionLength i) (codes "length") d) (λ at lengths r. (r.at, r.length))) (get (codes "name") d)))

-- regions of different names
pub agrees_regions : (rank n : ℕ) (variables : List Variable) (ds : List Data) → Agrees (All (IsRegion rank n)) (regions_form rank variables ds) (walk_each (walk_region rank variables) ds)
unfolding same_regions regions_form
agrees_regions rank n variables ds =
    agrees_list (all_differ same_regions) (differs same_regions) (region_form rank variables) (walk_region rank variables) (IsRegion rank n) refl (all_differ-push same_regions) (all_differ_breaks same_regions)
    (agrees_region rank n variables) ds
