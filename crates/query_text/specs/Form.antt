-- The form of a query: which JSON value stands for which query. It knows no order of tests, no locations and no limits.
-- The laws compare the walk with it.
use Rattle.std.specs.Prelude.{ℕ, ◌-◌, ℤ, pos, nat_le, Bool, true, false, not, ◌&&◌, ◌==◌, List, [], ◌∷◌, ◌++◌, length, flat_map, replicate, Option, Some, None, is_none, option_map, option_and_then, option_to_list, if◌then◌else◌, codes}
use Rattle.std.specs.Option.{option_map_or}
use Rattle.std.specs.List.{list_any, slice_get}
use Rattle.std.specs.Str.{bytes_eq}
use Rattle.serde_json.specs.Data.{Data, Num}
use Rattle.serde_json.specs.Find.{get, as_number, as_str, as_object, as_integer}
use Rattle.query_model.specs.NameForm.{is_name, name_of}
use Rattle.query_model.specs.QueryParts.{QueryParts}
use Rattle.query_model.specs.Rules.{constant_expr}
use Rattle.query_model.specs.Text.{name_bytes}
use Rattle.query_model.specs.declared.parts.Agg.{Agg}
use Rattle.query_model.specs.declared.parts.Agg.TheVariants.{Sum, Min, Max, Count, Avg}
use Rattle.query_model.specs.declared.parts.Constraint.{Constraint}
use Rattle.query_model.specs.declared.parts.Constraint.TheVariants.{Linear, Aggregate}
use Rattle.query_model.specs.declared.parts.Expr.{Expr}
use Rattle.query_model.specs.declared.parts.Fraction.{Fraction}
use Rattle.query_model.specs.declared.parts.Name.{Name}
use Rattle.query_model.specs.declared.parts.Region.{Region}
use Rattle.query_model.specs.declared.parts.Term.{Term}
use Rattle.query_model.specs.declared.parts.Variable.{Variable}
use Rattle.query_text.specs.Json.{has_only, items_in, two_of, numbers_of, number_and_text_of}
use Rattle.query_text.specs.Lookup.{variable_named, region_named, agg_named, compare_named}
use Rattle.query_text.specs.Sums.{SumParts, expr_of}

-- ---- parts of values

-- x, if the test passes
abbrev pub where_true : {X : Type 0} → Bool → Option X → Option X
where_true b found = if b then found else None

-- what each item stands for, if each stands for something
abbrev pub every : {X Y : Type 0} → (X → Option Y) → List X → Option (List Y)
every form [] = Some []
every form (x ∷ xs) = option_and_then (λ y. option_map (λ ys. y ∷ ys) (every form xs)) (form x)

-- an object with no other keys than these
abbrev pub is_object_of : List (List ℕ) → Data → Bool
is_object_of keys d = option_map_or (has_only keys) (as_object d) false

-- the text at a key
abbrev pub text_at : List ℕ → Data → Option (List ℕ)
text_at key d = option_and_then as_str (get key d)

-- the name at a key
abbrev pub name_at : List ℕ → Data → Option Name
name_at key d = option_and_then (λ text. where_true (is_name text) (Some (name_of text))) (text_at key d)

-- the whole number at a key, however large
abbrev pub whole_at : List ℕ → Data → Option ℤ
whole_at key d = option_and_then as_integer (option_and_then as_number (get key d))

-- the items of the array at a key
abbrev pub items_at : List ℕ → Data → Option (List Data)
items_at key d = option_and_then items_in (get key d)

-- no two of these are the same by the test
abbrev pub all_differ : {X : Type 0} → (X → X → Bool) → List X → Bool
all_differ same [] = true
all_differ same (x ∷ rest) = not (list_any (same x) rest) && all_differ same rest

-- ---- expressions, over the variables

-- a factor times a variable
abbrev pub product_form : List Variable → ℤ → List ℕ → Option SumParts
product_form variables factor text =
    option_map (λ v. record { constant = None; terms = record { factor = factor; var = v } ∷ [] }) (variable_named text variables)

-- a constant
abbrev pub constant_form : Num → Option SumParts
constant_form n = option_map (λ z. record { constant = Some z; terms = [] }) (as_integer n)

-- a pair of a factor and a name
abbrev pub pair_form : List Variable → List Data → Option SumParts
pair_form variables ds =
    option_and_then (λ (n, text). option_and_then (λ factor. product_form variables factor text) (as_integer n)) (option_and_then number_and_text_of (two_of ds))

-- an item of a sum: a whole number, a name, or a pair of a factor and a name
unfoldable pub item_form : List Variable → Data → Option SumParts
item_form variables d =
    option_map_or constant_form (as_number d) (
    option_map_or (product_form variables (pos 1)) (as_str d) (
    option_map_or (pair_form variables) (items_in d) None))

-- the constants and the terms of some items
abbrev pub constants_of : List SumParts → List ℤ
constants_of items = flat_map (λ (s : SumParts). option_to_list s.constant) items

abbrev pub terms_of : List SumParts → List Term
terms_of items = flat_map (λ (s : SumParts). s.terms) items

-- the sum of some items, if at most one is a constant and no two terms have the same variable
unfoldable pub sum_of_items : List SumParts → Option SumParts
sum_of_items items =
    where_true (nat_le (length (constants_of items)) 1 && all_differ (λ (t u : Term). t.var == u.var) (terms_of items))
    (Some (record { constant = slice_get (constants_of items) 0; terms = terms_of items }))

-- a sum of at least one item
unfoldable pub sum_form : List Variable → List Data → Option Expr
sum_form variables ds =
    where_true (not (length ds == 0)) (option_map expr_of (option_and_then sum_of_items (every (item_form variables) ds)))

-- an expression: a whole number, a name, or a sum
unfoldable pub expr_form : List Variable → Data → Option Expr
expr_form variables d =
    option_map_or (λ n. option_map constant_expr (as_integer n)) (as_number d) (
    option_map_or (λ text. option_map expr_of (product_form variables (pos 1) text)) (as_str d) (
    option_map_or (sum_form variables) (items_in d) None))

-- ---- variables

unfoldable pub variable_form : Data → Option Variable
variable_form d =
    where_true (is_object_of (codes "name" ∷ codes "from" ∷ codes "to" ∷ []) d) (
    option_and_then (λ name. option_and_then (λ from. option_map (λ to. record { name = name; from = from; to = to })
    (whole_at (codes "to") d)) (whole_at (codes "from") d)) (name_at (codes "name") d))

-- variables of different names
unfoldable pub variables_form : List Data → Option (List Variable)
variables_form ds =
    option_and_then (λ vs. where_true (all_differ (λ (v w : Variable). bytes_eq (name_bytes v.name) (name_bytes w.name)) vs) (Some vs)) (every variable_form ds)

-- ---- regions, over the rank and the variables

-- the expressions at a key, one for each dimension, and a constant for each dimension that is not used
unfoldable pub dimensions_form : ℕ → List Variable → ℕ → List ℕ → Data → Option (List Expr)
dimensions_form rank variables rest key d =
    option_and_then (λ ds. where_true (length ds == rank)
    (option_map (λ exprs. exprs ++ replicate (3 - rank) (constant_expr (pos rest))) (every (expr_form variables) ds))) (items_at key d)

unfoldable pub region_form : ℕ → List Variable → Data → Option Region
region_form rank variables d =
    where_true (is_object_of (codes "name" ∷ codes "at" ∷ codes "length" ∷ []) d) (
    option_and_then (λ name. option_and_then (λ at. option_map (λ lengths. record { name = name; at = at; length = lengths })
    (dimensions_form rank variables 1 (codes "length") d)) (dimensions_form rank variables 0 (codes "at") d)) (name_at (codes "name") d))

-- regions of different names
unfoldable pub regions_form : ℕ → List Variable → List Data → Option (List Region)
regions_form rank variables ds =
    option_and_then (λ rs. where_true (all_differ (λ (r s : Region). bytes_eq (name_bytes r.name) (name_bytes s.name)) rs) (Some rs)) (every (region_form rank variables) ds)

-- ---- constraints, over the variables and the regions

-- a whole number as a fraction
abbrev pub whole_fraction_at : Data → Option Fraction
whole_fraction_at d = option_map (λ p. record { p = p; q = pos 1 }) (whole_at (codes "to") d)

-- a pair of whole numbers as a fraction
abbrev pub fraction_form : List Data → Option Fraction
fraction_form ds =
    option_and_then (λ (m, n). option_and_then (λ p. option_map (λ q. record { p = p; q = q }) (as_integer n)) (as_integer m)) (option_and_then numbers_of (two_of ds))

-- the number that an aggregate is compared with: a whole number, or for an average also a pair
unfoldable pub fraction_at : Agg → Data → Option Fraction
fraction_at Sum d = whole_fraction_at d
fraction_at Min d = whole_fraction_at d
fraction_at Max d = whole_fraction_at d
fraction_at Count d = whole_fraction_at d
fraction_at Avg d = option_map_or fraction_form (items_at (codes "to") d) (whole_fraction_at d)

-- a constraint on an aggregate of a region
unfoldable pub aggregate_form : List Region → Data → Option Constraint
aggregate_form regions d =
    where_true (is_object_of (codes "agg" ∷ codes "of" ∷ codes "cmp" ∷ codes "to" ∷ []) d) (
    option_and_then (λ agg. option_and_then (λ region. option_and_then (λ compare. option_map (λ to. Aggregate agg region compare to)
    (fraction_at agg d)) (option_and_then compare_named (text_at (codes "cmp") d)))
    (option_and_then (λ text. region_named text regions) (text_at (codes "of") d)))
    (option_and_then agg_named (text_at (codes "agg") d)))

-- a constraint on an expression
unfoldable pub linear_form : List Variable → Data → Option Constraint
linear_form variables d =
    where_true (is_object_of (codes "expr" ∷ codes "cmp" ∷ codes "to" ∷ []) d) (
    option_and_then (λ expr. option_and_then (λ compare. option_map (λ to. Linear expr compare to)
    (whole_at (codes "to") d)) (option_and_then compare_named (text_at (codes "cmp") d)))
    (option_and_then (expr_form variables) (get (codes "expr") d)))

-- one of the two kinds: on an aggregate if there is a key `agg`, and on an expression otherwise
unfoldable pub constraint_form : List Variable → List Region → Data → Option Constraint
constraint_form variables regions d =
    if is_none (get (codes "agg") d) then linear_form variables d else aggregate_form regions d

-- ---- the whole

-- the items of a part, none if it is absent
abbrev pub part_at : List ℕ → Data → Option (List Data)
part_at key d = if is_none (get key d) then Some [] else items_at key d

-- the variables, at least one
abbrev pub variables_at : Data → Option (List Variable)
variables_at d =
    option_and_then (λ ds. where_true (not (length ds == 0)) (variables_form ds)) (items_at (codes "variables") d)

-- the query of a value, on arrays of a rank
unfoldable pub query_form : ℕ → Data → Option QueryParts
query_form rank d =
    where_true (is_object_of (codes "variables" ∷ codes "regions" ∷ codes "constraints" ∷ []) d) (
    option_and_then (λ variables. option_and_then (λ regions. option_map (λ constraints. record { rank = rank; variables = variables; regions = regions; constraints = constraints })
    (option_and_then (every (constraint_form variables regions)) (part_at (codes "constraints") d)))
    (option_and_then (regions_form rank variables) (part_at (codes "regions") d))) (variables_at d))
