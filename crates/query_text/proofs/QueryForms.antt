-- The whole query: what is read of it is what it stands for, and only limits that the rules keep refuse it.
use Rattle.std.proofs.Common.{◌≡◌, ℕ, ◌^◌, ◌≤◌, nat_lt, List, length, refl, sym, ap, subst, ◌∙◌}
use Rattle.std.proofs.lemmas.Option.{same_Some}
use Rattle.std.specs.Prelude.{Option, Some, Ok, Err, All, option_and_then, option_map, codes}
use Rattle.serde_json.specs.Data.{Data}
use Rattle.query_model.specs.declared.parts.Constraint.{Constraint}
use Rattle.query_model.specs.declared.parts.Region.{Region}
use Rattle.query_model.specs.declared.parts.Variable.{Variable}
use Rattle.query_model.specs.QueryParts.{QueryParts}
use Rattle.query_model.specs.Rules.{IsVariable, IsRegion, IsConstraint, IsQuery}
use Rattle.query_text.specs.declared.refusal.QueryRefusal.{QueryRefusal}
use Rattle.query_text.specs.Form.{where_true, every, is_object_of, part_at, variables_form, regions_form, constraint_form, query_form}
use Rattle.query_text.specs.Limits.{IsLimit}
use Rattle.query_text.specs.Locations as location
use Rattle.query_text.specs.declared.location.Part.{Part}
use Rattle.query_text.specs.Walk.{Walked, walk_each, walk_variable, walk_region, walk_constraints, walk_parts, walk_query_over, walk_query, query_keys, point_count}
use Rattle.query_text.proofs.Agrees.{Agrees, agrees_ok, agrees_form, agrees_then, agrees_within, map_as_then, map_some}
use Rattle.query_text.proofs.ListForms.{then_some, where_some}
use Rattle.query_text.proofs.Objects.{agrees_object}
use Rattle.query_text.proofs.VariableForms.{agrees_variables}
use Rattle.query_text.proofs.RegionForms.{agrees_regions}
use Rattle.query_text.proofs.ConstraintForms.{agrees_constraints}
use Rattle.query_text.proofs.PartForms.{IsFew, not_less, agrees_part, some_items, agrees_some_items, variables_at-items, items_first, every_length}

module _ (rank : ℕ) where
  -- the query of these parts
  abbrev made : List Variable → List Region → List Constraint → QueryParts
  made variables regions constraints = record { rank = rank; variables = variables; regions = regions; constraints = constraints }

  -- the query of constraint items, over the regions
  abbrev from_regions : List Data → List Variable → List Region → Option QueryParts
  from_regions cs variables regions = option_map (λ constraints. made variables regions constraints) (every (constraint_form variables regions) cs)

  -- the query of region and constraint items, over the variables
  abbrev from_variables : List Data → List Data → List Variable → Option QueryParts
  from_variables rs cs variables = option_and_then (λ regions. from_regions cs variables regions) (regions_form rank variables rs)

  -- the query of these items
  abbrev from_items : List Data → List Data → List Data → Option QueryParts
  from_items vs rs cs = option_and_then (λ variables. from_variables rs cs variables) (variables_form vs)

  -- ---- a query is made of what its items stand for

  regions_made : (cs : List Data) (variables : List Variable) (regions : List Region) (q : QueryParts) → from_regions cs variables regions ≡ Some q → IsQuery q
      → (constraints : List Constraint) × (every (constraint_form variables regions) cs ≡ Some constraints) × IsQuery (made variables regions constraints)
  regions_made cs variables regions q e rules =
      let m = map_some (λ constraints. made variables regions constraints) (every (constraint_form variables regions) cs) q e in (m.0, m.1, subst IsQuery (sym m.2) rules)

  -- its variables, regions and constraints
  record IsMade (vs rs cs : List Data) : Type 0 where
    variables : List Variable
    regions : List Region
    constraints : List Constraint
    variables_of : variables_form vs ≡ Some variables
    regions_of : regions_form rank variables rs ≡ Some regions
    constraints_of : every (constraint_form variables regions) cs ≡ Some constraints
    rules : IsQuery (made variables regions constraints)

  items_made : (vs rs cs : List Data) (q : QueryParts) → from_items vs rs cs ≡ Some q → IsQuery q → IsMade vs rs cs
  items_made vs rs cs q e rules =
      let v = then_some (λ variables. from_variables rs cs variables) (variables_form vs) q e in
      let r = then_some (λ regions. from_regions cs v.0 regions) (regions_form rank v.0 rs) q v.2 in
      let c = regions_made cs v.0 r.0 q r.2 rules in
      record { variables = v.0; regions = r.0; constraints = c.0; variables_of = v.1; regions_of = r.1; constraints_of = c.1; rules = c.2 }

  variables_length : (ds : List Data) (vs : List Variable) → variables_form ds ≡ Some vs → length vs ≡ length ds
  unfolding variables_form
  variables_length ds vs e = let p = then_some _ _ vs e in let w = where_some _ _ vs p.2 in ap length (sym w.1) ∙ every_length _ ds p.0 p.1

  regions_length : (variables : List Variable) (ds : List Data) (rs : List Region) → regions_form rank variables ds ≡ Some rs → length rs ≡ length ds
  unfolding regions_form
  regions_length variables ds rs e = let p = then_some _ _ rs e in let w = where_some _ _ rs p.2 in ap length (sym w.1) ∙ every_length _ ds p.0 p.1

  -- ---- the steps

  agrees_all : (vs rs cs : List Data) → Agrees IsQuery (from_items vs rs cs) (walk_parts rank vs rs cs)
  unfolding walk_parts walk_query_over
  agrees_all vs rs cs =
      agrees_then (All IsVariable) IsQuery (variables_form vs) (walk_each walk_variable vs) _ _ (agrees_variables vs)
      (λ variables e. agrees_then (All (IsRegion rank (length variables))) IsQuery (regions_form rank variables rs) (walk_each (walk_region rank variables) rs) _ _ (agrees_regions rank (length variables) variables rs)
      (λ regions f. agrees_form IsQuery _ _ _ (map_as_then (λ constraints. made variables regions constraints) (every (constraint_form variables regions) cs))
      (agrees_then (All (IsConstraint (length variables) (length regions))) IsQuery (every (constraint_form variables regions) cs) (walk_constraints variables regions cs) _ _
      (agrees_constraints (length variables) (length regions) variables regions cs)
      (λ constraints g. agrees_within IsQuery (nat_lt (2 ^ 62) (point_count variables)) QueryRefusal.TooLarge _ _ tt
      (λ q h rules. let same = subst IsQuery (sym (same_Some (made variables regions constraints) q h)) rules in not_less (2 ^ 62) (point_count variables) same.few_points)
      (λ few. agrees_ok IsQuery (made variables regions constraints)))
      (λ constraints q g h rules. let same = subst IsQuery (sym (same_Some (made variables regions constraints) q h)) rules in same.constraints)))
      (λ regions q f h rules. (regions_made cs variables regions q h rules).2.regions))
      (λ variables q e h rules. let r = then_some (λ regions. from_regions cs variables regions) (regions_form rank variables rs) q h in (regions_made cs variables r.0 q r.2 rules).2.variables)

  in_order : (d : Data) → query_form rank d
      ≡ where_true (is_object_of query_keys d) (option_and_then (λ vs. option_and_then (λ rs. option_and_then (λ cs. from_items vs rs cs) (part_at (codes "constraints") d)) (part_at (codes "regions") d)) (some_items d))
  unfolding query_form
  in_order d =
      ap (λ o. where_true (is_object_of query_keys d) (option_and_then (λ variables. option_and_then (λ regions. option_map (λ constraints. made variables regions constraints)
      (option_and_then (every (constraint_form variables regions)) (part_at (codes "constraints") d))) (option_and_then (regions_form rank variables) (part_at (codes "regions") d))) o)) (variables_at-items d)
      ∙ ap (where_true (is_object_of query_keys d)) (items_first variables_form (regions_form rank) (λ variables regions. every (constraint_form variables regions)) made
      (some_items d) (part_at (codes "regions") d) (part_at (codes "constraints") d))

  pub agrees_query : (d : Data) → Agrees IsQuery (query_form rank d) (walk_query rank d)
  unfolding walk_query
  agrees_query d =
      let rest = part_at (codes "regions") d in let last = part_at (codes "constraints") d in
      agrees_form IsQuery _ _ _ (in_order d)
      (agrees_object IsQuery query_keys location.query d _ _
      (agrees_then (IsFew 8) IsQuery (some_items d) _ _ _ (agrees_some_items d)
      (λ vs e. agrees_then (IsFew 16) IsQuery (part_at (codes "regions") d) _ _ _ (agrees_part 16 (location.part Part.Regions) (codes "regions") d)
      (λ rs f. agrees_then (IsFew 64) IsQuery (part_at (codes "constraints") d) _ _ _ (agrees_part 64 (location.part Part.Constraints) (codes "constraints") d)
      (λ cs g. agrees_all vs rs cs)
      (λ cs q g h rules. let m = items_made vs rs cs q h rules in subst (λ (k : ℕ). k ≤ 64) (every_length (constraint_form m.variables m.regions) cs m.constraints m.constraints_of) m.rules.few_constraints))
      (λ rs q f h rules. let c = then_some (λ cs. from_items vs rs cs) last q h in let m = items_made vs rs c.0 q c.2 rules in subst (λ (k : ℕ). k ≤ 16) (regions_length m.variables rs m.regions m.regions_of) m.rules.few_regions))
      (λ vs q e h rules. let r = then_some (λ rs. option_and_then (λ cs. from_items vs rs cs) last) rest q h in let c = then_some (λ cs. from_items vs r.0 cs) last q r.2 in
      let m = items_made vs r.0 c.0 q c.2 rules in subst (λ (k : ℕ). k ≤ 8) (variables_length vs m.variables m.variables_of) m.rules.few_variables)))

-- ---- the laws

pub query_form-accepted : (rank : ℕ) (d : Data) (q : QueryParts) → walk_query rank d ≡ Ok q → query_form rank d ≡ Some q
query_form-accepted rank d q e = (agrees_query rank d).accepted q e

pub refused_limit : (rank : ℕ) (d : Data) (q : QueryParts) (r : QueryRefusal) → query_form rank d ≡ Some q → walk_query rank d ≡ Err r → IsLimit r
refused_limit rank d q r e f = ((agrees_query rank d).refused q r e f).0

pub walk_query-form : (rank : ℕ) (d : Data) (q : QueryParts) → query_form rank d ≡ Some q → IsQuery q → walk_query rank d ≡ Ok q
walk_query-form rank d q e rules = by (walk_query rank d) refl
  where
    by : (w : Walked QueryParts) → walk_query rank d ≡ w → w ≡ Ok q
    by (Ok p) f = ap Ok (same_Some p q (sym ((agrees_query rank d).accepted p f) ∙ e))
    by (Err r) f = absurd (((agrees_query rank d).refused q r e f).1 rules)
