-- The walk over a query, step by step. Each step gives what it read, or the refusal that ends the walk.
-- The contracts of this crate and of `search_run` use it.
use Rattle.std.specs.Prelude.{ℕ, ◌+◌, ◌-◌, ◌^◌, ℤ, pos, nat_lt, nat_le, Bool, not, ◌==◌, List, [], ◌∷◌, ◌++◌, length, map, replicate, Option, Some, None, is_some, option_and_then, Result, Ok, Err, if◌then◌else◌, codes, ⊤}
use Rattle.std.specs.Option.{option_map_or}
use Rattle.serde_json.specs.Data.{Data, Num}
use Rattle.serde_json.specs.Find.{get, as_number, as_str, as_object}
use Rattle.lists.specs.Numbers.{product}
use Rattle.domains.specs.Values.{size_of}
use Rattle.query_model.specs.Answer.{domain_of}
use Rattle.query_model.specs.NameForm.{is_name, name_of}
use Rattle.query_model.specs.QueryParts.{QueryParts}
use Rattle.query_model.specs.Rules.{constant_expr}
use Rattle.query_model.specs.declared.parts.Agg.{Agg}
use Rattle.query_model.specs.declared.parts.Agg.TheVariants.{Sum, Min, Max, Count, Avg}
use Rattle.query_model.specs.declared.parts.Compare.{Compare}
use Rattle.query_model.specs.declared.parts.Constraint.{Constraint}
use Rattle.query_model.specs.declared.parts.Constraint.TheVariants.{Linear, Aggregate}
use Rattle.query_model.specs.declared.parts.Expr.{Expr}
use Rattle.query_model.specs.declared.parts.Fraction.{Fraction}
use Rattle.query_model.specs.declared.parts.Name as name
use Rattle.query_model.specs.declared.parts.Region.{Region}
use Rattle.query_model.specs.declared.parts.Variable.{Variable}
use Rattle.query_text.specs.declared.location.Location.{Location}
use Rattle.query_text.specs.declared.refusal.QueryRefusal.{QueryRefusal}
use Rattle.query_text.specs.declared.refusal.QueryRefusal.TheVariants.{TooLong, NotJson, Shape, UnknownKey, Number, Name, Repeated, Unbound, Dimensions, TooMany, TooLarge}
use Rattle.query_text.specs.Json.{json_of, has_only, items_in, two_of, numbers_of, number_and_text_of, whole_between, whole_within}
use Rattle.query_text.specs.Lookup.{variable_named, region_named, agg_named, compare_named}
use Rattle.query_text.specs.Sums.{SumParts, empty_sum, with_constant, with_term, has_term, expr_of}
use Rattle.query_text.specs.Locations as location
use Rattle.query_text.specs.declared.location.Field.{Field}
use Rattle.query_text.specs.declared.location.Part.{Part}

-- ---- steps

-- what a step gives
abbrev pub Walked : Type 0 → Type 0
Walked X = Result X QueryRefusal

-- go on with what was read
infixl 10 ◌>>=◌
abbrev pub ◌>>=◌ : {X Y : Type 0} → Walked X → (X → Walked Y) → Walked Y
(Ok x) >>= next = next x
(Err r) >>= next = Err r

-- the value if there is one, and otherwise this refusal
abbrev pub or_refuse : {X : Type 0} → QueryRefusal → Option X → Walked X
or_refuse r None = Err r
or_refuse r (Some x) = Ok x

-- this refusal if b holds
abbrev pub refuse_if : Bool → QueryRefusal → Walked ⊤
refuse_if b r = if b then Err r else Ok tt

-- one step for each item; each step gets what was read before
abbrev pub walk_fold : {X : Type 0} → (X → Data → Walked X) → X → List Data → Walked X
walk_fold step x [] = Ok x
walk_fold step x (d ∷ ds) = step x d >>= (λ y. walk_fold step y ds)

-- a step whose value is appended to what was read before
abbrev pub appending : {X : Type 0} → (List X → Data → Walked X) → List X → Data → Walked (List X)
appending step before d = step before d >>= (λ x. Ok (before ++ x ∷ []))

-- one step for each item; each step gets the list of what was read before
abbrev pub walk_each : {X : Type 0} → (List X → Data → Walked X) → List Data → Walked (List X)
walk_each step ds = walk_fold (appending step) [] ds

-- the number of the next item, from 1
abbrev pub next_number : {X : Type 0} → List X → ℕ
next_number before = length before + 1

-- ---- single values

-- an object with no other keys than these
abbrev pub walk_object : List (List ℕ) → Location → Data → Walked ⊤
walk_object known at d =
    or_refuse (Shape at) (as_object d) >>= (λ members. refuse_if (not (has_only known members)) (UnknownKey at))

-- a text
abbrev pub walk_text : Location → Option Data → Walked (List ℕ)
walk_text at found = or_refuse (Shape at) (option_and_then as_str found)

-- a text of the form of names
abbrev pub walk_name : Location → Option Data → Walked (List ℕ)
walk_name at found = walk_text at found >>= (λ text. if is_name text then Ok text else Err (Name at))

-- a name that is not taken
abbrev pub walk_new_name : (List ℕ → Bool) → Location → Option Data → Walked name.Name
walk_new_name is_taken at found =
    walk_name at found >>= (λ text. refuse_if (is_taken text) (Repeated at) >>= (λ _. Ok (name_of text)))

-- a whole number within the bound
abbrev pub walk_whole : ℕ → Location → Num → Walked ℤ
walk_whole bound at n = or_refuse (Number at) (whole_within bound n)

-- a number, which has to be whole and within the bound
abbrev pub walk_number : ℕ → Location → Option Data → Walked ℤ
walk_number bound at found = or_refuse (Shape at) (option_and_then as_number found) >>= walk_whole bound at

-- ---- expressions, over the variables

-- the number of a variable
abbrev pub walk_variable_name : List Variable → Location → List ℕ → Walked ℕ
walk_variable_name variables at text = or_refuse (Unbound at) (variable_named text variables)

-- one more term
unfoldable pub walk_term : List Variable → Location → ℤ → List ℕ → SumParts → Walked SumParts
walk_term variables at factor text sum =
    walk_variable_name variables at text >>= (λ v.
    refuse_if (has_term v sum) (Repeated at) >>= (λ _.
    Ok (with_term (record { factor = factor; var = v }) sum)))

-- a constant, if there was none before
unfoldable pub walk_constant : Location → Num → SumParts → Walked SumParts
walk_constant at n sum =
    refuse_if (is_some sum.constant) (Repeated at) >>= (λ _.
    walk_whole (2 ^ 31) at n >>= (λ z. Ok (with_constant z sum)))

-- a factor with a name
unfoldable pub walk_product : List Variable → Location → SumParts → List Data → Walked SumParts
walk_product variables at sum ds =
    or_refuse (Shape at) (option_and_then number_and_text_of (two_of ds)) >>= (λ (n, text).
    walk_whole 1024 at n >>= (λ factor. walk_term variables at factor text sum))

-- an item of a sum: a whole number, a name, or a factor with a name
unfoldable pub walk_item : List Variable → Location → SumParts → Data → Walked SumParts
walk_item variables at sum d =
    option_map_or (λ n. walk_constant at n sum) (as_number d) (
    option_map_or (λ text. walk_term variables at (pos 1) text sum) (as_str d) (
    option_map_or (walk_product variables at sum) (items_in d) (
    Err (Shape at))))

-- a sum of 1 to 9 items
unfoldable pub walk_sum : List Variable → Location → List Data → Walked Expr
walk_sum variables at ds =
    refuse_if (length ds == 0) (Shape at) >>= (λ _.
    refuse_if (nat_lt 9 (length ds)) (TooMany at) >>= (λ _.
    walk_fold (walk_item variables at) empty_sum ds >>= (λ sum. Ok (expr_of sum))))

-- a variable alone
abbrev pub walk_variable_alone : List Variable → Location → List ℕ → Walked Expr
walk_variable_alone variables at text = walk_term variables at (pos 1) text empty_sum >>= (λ sum. Ok (expr_of sum))

-- an expression: a whole number, a name, or a sum
unfoldable pub walk_expr : List Variable → Location → Data → Walked Expr
walk_expr variables at d =
    option_map_or (λ n. walk_whole (2 ^ 31) at n >>= (λ z. Ok (constant_expr z))) (as_number d) (
    option_map_or (walk_variable_alone variables at) (as_str d) (
    option_map_or (walk_sum variables at) (items_in d) (
    Err (Shape at))))

-- ---- variables

abbrev pub variable_keys : List (List ℕ)
variable_keys = codes "name" ∷ codes "from" ∷ codes "to" ∷ []

unfoldable pub walk_variable : List Variable → Data → Walked Variable
walk_variable before d =
    let i = next_number before in
    walk_object variable_keys (location.item Part.Variables i) d >>= (λ _.
    walk_new_name (λ text. is_some (variable_named text before)) (location.field Field.VariableName i) (get (codes "name") d) >>= (λ name.
    walk_number (2 ^ 20) (location.field Field.VariableFrom i) (get (codes "from") d) >>= (λ from.
    walk_number (2 ^ 20) (location.field Field.VariableTo i) (get (codes "to") d) >>= (λ to.
    Ok (record { name = name; from = from; to = to })))))

-- ---- regions, over the rank and the variables

abbrev pub region_keys : List (List ℕ)
region_keys = codes "name" ∷ codes "at" ∷ codes "length" ∷ []

-- the expression of the next dimension
abbrev pub walk_dimension : List Variable → Location → List Expr → Data → Walked Expr
walk_dimension variables at before d = walk_expr variables (location.dimension at (next_number before)) d

-- an expression for each dimension, in the region of this number
unfoldable pub walk_dimensions : ℕ → List Variable → ℕ → Location → Option Data → Walked (List Expr)
walk_dimensions rank variables region at found =
    or_refuse (Shape at) (option_and_then items_in found) >>= (λ ds.
    refuse_if (not (length ds == rank)) (Dimensions region (length ds)) >>= (λ _.
    walk_each (walk_dimension variables at) ds))

-- and then this constant in each dimension that is not used
abbrev pub then_padded : ℕ → ℕ → Walked (List Expr) → Walked (List Expr)
then_padded rank n walked = walked >>= (λ exprs. Ok (exprs ++ replicate (3 - rank) (constant_expr (pos n))))

unfoldable pub walk_region : ℕ → List Variable → List Region → Data → Walked Region
walk_region rank variables before d =
    let i = next_number before in
    walk_object region_keys (location.item Part.Regions i) d >>= (λ _.
    walk_new_name (λ text. is_some (region_named text before)) (location.field Field.RegionName i) (get (codes "name") d) >>= (λ name.
    then_padded rank 0 (walk_dimensions rank variables i (location.field Field.RegionAt i) (get (codes "at") d)) >>= (λ at.
    then_padded rank 1 (walk_dimensions rank variables i (location.field Field.RegionLength i) (get (codes "length") d)) >>= (λ lengths.
    Ok (record { name = name; at = at; length = lengths })))))

-- ---- constraints, over the variables and the regions

abbrev pub constraint_keys : List (List ℕ)
constraint_keys = codes "agg" ∷ codes "of" ∷ codes "expr" ∷ codes "cmp" ∷ codes "to" ∷ []

abbrev pub walk_agg : Location → Data → Walked Agg
walk_agg at d = walk_text at (Some d) >>= (λ text. or_refuse (Name at) (agg_named text))

abbrev pub walk_region_name : List Region → Location → Option Data → Walked ℕ
walk_region_name regions at found =
    walk_text at found >>= (λ text. or_refuse (Unbound at) (region_named text regions))

abbrev pub walk_compare : Location → Option Data → Walked Compare
walk_compare at found = walk_text at found >>= (λ text. or_refuse (Name at) (compare_named text))

-- a whole number as a fraction
abbrev pub whole_fraction : ℤ → Fraction
whole_fraction p = record { p = p; q = pos 1 }

-- two whole numbers as a fraction
unfoldable pub walk_pair : Location → List Data → Walked Fraction
walk_pair at ds =
    or_refuse (Shape at) (option_and_then numbers_of (two_of ds)) >>= (λ (p, q).
    walk_whole (2 ^ 52) at p >>= (λ p.
    or_refuse (Number at) (whole_between (pos 1) (pos (2 ^ 20)) q) >>= (λ q.
    Ok (record { p = p; q = q }))))

-- a whole number
abbrev pub walk_whole_fraction : Location → Option Data → Walked Fraction
walk_whole_fraction at found = walk_number (2 ^ 52) at found >>= (λ p. Ok (whole_fraction p))

-- the number that an average is compared with: a pair or a whole number
abbrev pub walk_average : Location → Option Data → Walked Fraction
walk_average at found = option_map_or (walk_pair at) (option_and_then items_in found) (walk_whole_fraction at found)

-- the number that an aggregate is compared with
unfoldable pub walk_fraction : Agg → Location → Option Data → Walked Fraction
walk_fraction Sum at found = walk_whole_fraction at found
walk_fraction Min at found = walk_whole_fraction at found
walk_fraction Max at found = walk_whole_fraction at found
walk_fraction Count at found = walk_whole_fraction at found
walk_fraction Avg at found = walk_average at found

unfoldable pub walk_aggregate : List Region → ℕ → Data → Data → Walked Constraint
walk_aggregate regions i agg d =
    refuse_if (is_some (get (codes "expr") d)) (Shape (location.field Field.ConstraintExpr i)) >>= (λ _.
    walk_agg (location.field Field.ConstraintAgg i) agg >>= (λ agg.
    walk_region_name regions (location.field Field.ConstraintOf i) (get (codes "of") d) >>= (λ region.
    walk_compare (location.field Field.ConstraintCmp i) (get (codes "cmp") d) >>= (λ compare.
    walk_fraction agg (location.field Field.ConstraintTo i) (get (codes "to") d) >>= (λ to.
    Ok (Aggregate agg region compare to))))))

unfoldable pub walk_linear : List Variable → ℕ → Data → Walked Constraint
walk_linear variables i d =
    refuse_if (is_some (get (codes "of") d)) (Shape (location.field Field.ConstraintOf i)) >>= (λ _.
    or_refuse (Shape (location.field Field.ConstraintExpr i)) (get (codes "expr") d) >>= (λ found.
    walk_expr variables (location.field Field.ConstraintExpr i) found >>= (λ expr.
    walk_compare (location.field Field.ConstraintCmp i) (get (codes "cmp") d) >>= (λ compare.
    walk_number (2 ^ 31) (location.field Field.ConstraintTo i) (get (codes "to") d) >>= (λ to.
    Ok (Linear expr compare to))))))

-- the constraint of this number
unfoldable pub walk_constraint : List Variable → List Region → ℕ → Data → Walked Constraint
walk_constraint variables regions i d =
    walk_object constraint_keys (location.item Part.Constraints i) d >>= (λ _.
    option_map_or (λ agg. walk_aggregate regions i agg d) (get (codes "agg") d) (walk_linear variables i d))

-- the constraints of these items
abbrev pub walk_constraints : List Variable → List Region → List Data → Walked (List Constraint)
walk_constraints variables regions ds = walk_each (λ before. walk_constraint variables regions (next_number before)) ds

-- ---- the whole

abbrev pub query_keys : List (List ℕ)
query_keys = codes "variables" ∷ codes "regions" ∷ codes "constraints" ∷ []

-- the items of a part
abbrev pub walk_items : ℕ → Location → Data → Walked (List Data)
walk_items most at d =
    or_refuse (Shape at) (items_in d) >>= (λ ds. refuse_if (nat_lt most (length ds)) (TooMany at) >>= (λ _. Ok ds))

-- a part that may be absent
unfoldable pub walk_part : ℕ → Location → Option Data → Walked (List Data)
walk_part most at found = option_map_or (walk_items most at) found (Ok [])

-- the variables, at least one
unfoldable pub walk_variables_part : Option Data → Walked (List Data)
walk_variables_part found =
    or_refuse (Shape (location.part Part.Variables)) (option_and_then items_in found) >>= (λ ds.
    refuse_if (length ds == 0) (Shape (location.part Part.Variables)) >>= (λ _.
    refuse_if (nat_lt 8 (length ds)) (TooMany (location.part Part.Variables)) >>= (λ _. Ok ds)))

-- how many points some variables have
abbrev pub point_count : List Variable → ℕ
point_count variables = product (map (λ (v : Variable). size_of (domain_of v)) variables)

-- the query with these variables and regions, and with the constraints of these items
unfoldable pub walk_query_over : ℕ → List Variable → List Region → List Data → Walked QueryParts
walk_query_over rank variables regions cs =
    walk_constraints variables regions cs >>= (λ constraints.
    refuse_if (nat_lt (2 ^ 62) (point_count variables)) TooLarge >>= (λ _.
    Ok (record { rank = rank; variables = variables; regions = regions; constraints = constraints })))

-- the query whose parts have these items
unfoldable pub walk_parts : ℕ → List Data → List Data → List Data → Walked QueryParts
walk_parts rank vs rs cs =
    walk_each walk_variable vs >>= (λ variables.
    walk_each (walk_region rank variables) rs >>= (λ regions.
    walk_query_over rank variables regions cs))

-- the query of a value
unfoldable pub walk_query : ℕ → Data → Walked QueryParts
walk_query rank d =
    walk_object query_keys location.query d >>= (λ _.
    walk_variables_part (get (codes "variables") d) >>= (λ vs.
    walk_part 16 (location.part Part.Regions) (get (codes "regions") d) >>= (λ rs.
    walk_part 64 (location.part Part.Constraints) (get (codes "constraints") d) >>= (λ cs.
    walk_parts rank vs rs cs))))

-- the greatest number of bytes of a query
abbrev pub most_bytes : ℕ
most_bytes = 2 ^ 20

-- the query of these bytes, whatever their number
abbrev pub walk_bytes : ℕ → List ℕ → Walked QueryParts
walk_bytes rank bytes = or_refuse NotJson (json_of bytes) >>= walk_query rank

-- the query of a file with these bytes, on arrays of a rank
abbrev pub walk : ℕ → List ℕ → Walked QueryParts
walk rank bytes = if nat_le (length bytes) most_bytes then walk_bytes rank bytes else Err (TooLong (length bytes))
