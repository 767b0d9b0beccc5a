-- The constraints: what is read of them is what they stand for.
use Rattle.std.proofs.Common.{◌≡◌, ℕ, ◌^◌, Bool, true, false, ◌&&◌, ℤ, List, [], ◌∷◌, refl, sym, ap, subst, ◌∙◌}
use Rattle.std.specs.Prelude.{Option, None, Some, All, is_some, is_none, option_and_then, option_map, if◌then◌else◌, codes, ⊤}
use Rattle.std.specs.Option.{option_map_or}
use Rattle.serde_json.specs.Data.{Data}
use Rattle.serde_json.specs.Find.{get, as_str}
use Rattle.query_model.specs.declared.parts.Agg.{Agg}
use Rattle.query_model.specs.declared.parts.Compare.{Compare}
use Rattle.query_model.specs.declared.parts.Constraint.{Constraint}
use Rattle.query_model.specs.declared.parts.Constraint.TheVariants.{Linear, Aggregate}
use Rattle.query_model.specs.declared.parts.Expr.{Expr}
use Rattle.query_model.specs.declared.parts.Region.{Region}
use Rattle.query_model.specs.declared.parts.Variable.{Variable}
use Rattle.query_model.specs.Rules.{IsExpr, IsFraction, IsWhole, IsConstraint}
use Rattle.query_text.specs.declared.location.Location.{Location}
use Rattle.query_text.specs.declared.refusal.QueryRefusal.{QueryRefusal}
use Rattle.query_text.specs.Form.{where_true, every, is_object_of, text_at, whole_at, expr_form, fraction_at, aggregate_form, linear_form, constraint_form}
use Rattle.query_text.specs.Lookup.{agg_named, compare_named, region_named}
use Rattle.query_text.specs.Locations as location
use Rattle.query_text.specs.declared.location.Field.{Field}
use Rattle.query_text.specs.declared.location.Part.{Part}
use Rattle.query_text.specs.Walk.{◌>>=◌, walk_object, walk_expr, walk_agg, walk_aggregate, walk_linear, walk_constraint, walk_constraints, constraint_keys, next_number}
use Rattle.query_text.proofs.Agrees.{Agrees, agrees_form, agrees_found, agrees_then, agrees_two, agrees_unless, map_some}
use Rattle.query_text.proofs.ListForms.{then-then, then_some, agrees_every}
use Rattle.query_text.proofs.Numbers.{IsUpTo, agrees_number, agrees_word, small_31}
use Rattle.query_text.proofs.Objects.{agrees_object, object_without}
use Rattle.query_text.proofs.ExpressionForms.{agrees_expr}
use Rattle.query_text.proofs.FractionForms.{agrees_fraction}

where-both : {X : Type 0} (both a b : Bool) (f : Option X) → both ≡ a && b → where_true both f ≡ where_true a (where_true b f)
where-both both true b f e = ap (λ c. where_true c f) e
where-both both false b f e = ap (λ c. where_true c f) e

-- ---- on an aggregate

aggregate_keys : (d : Data) → is_object_of (codes "agg" ∷ codes "of" ∷ codes "cmp" ∷ codes "to" ∷ []) d ≡ is_object_of constraint_keys d && is_none (get (codes "expr") d)
aggregate_keys d = sym (object_without (codes "agg" ∷ codes "of" ∷ []) (codes "cmp" ∷ codes "to" ∷ []) (codes "expr") refl d)

agrees_agg : (at : Location) (d a : Data) → get (codes "agg") d ≡ Some a → Agrees (λ (x : Agg). ⊤) (option_and_then agg_named (text_at (codes "agg") d)) (walk_agg at a)
agrees_agg at d a e =
    agrees_form (λ (x : Agg). ⊤) _ _ _ (ap (λ o. option_and_then agg_named (option_and_then as_str o)) e) (agrees_word (λ (x : Agg). ⊤) at (QueryRefusal.Name at) agg_named (Some a))

agrees_aggregate : (n m : ℕ) (regions : List Region) (i : ℕ) (a d : Data) → get (codes "agg") d ≡ Some a
    → Agrees (IsConstraint n m) (aggregate_form regions d) (walk_object constraint_keys (location.item Part.Constraints i) d >>= (λ _. walk_aggregate regions i a d))
unfolding aggregate_form walk_aggregate
agrees_aggregate n m regions i a d e =
    let P = IsConstraint n m in
    agrees_form P _ _ _ (where-both _ (is_object_of constraint_keys d) (is_none (get (codes "expr") d)) _ (aggregate_keys d))
    (agrees_object P constraint_keys (location.item Part.Constraints i) d _ _
    (agrees_unless P (is_some (get (codes "expr") d)) (QueryRefusal.Shape (location.field Field.ConstraintExpr i)) _ _
    (λ no_expr. agrees_then (λ (x : Agg). ⊤) P _ _ _ _ (agrees_agg (location.field Field.ConstraintAgg i) d a e)
    (λ agg f. agrees_then (λ (x : ℕ). ⊤) P _ _ _ _ (agrees_word (λ (x : ℕ). ⊤) (location.field Field.ConstraintOf i) (QueryRefusal.Unbound (location.field Field.ConstraintOf i)) (λ text. region_named text regions) (get (codes "of") d))
    (λ region g. agrees_two (λ (x : Compare). ⊤) (IsFraction (IsWhole agg)) P (λ compare to. Aggregate agg region compare to) _ _ (λ compare. fraction_at agg d) _
    (agrees_word (λ (x : Compare). ⊤) (location.field Field.ConstraintCmp i) (QueryRefusal.Name (location.field Field.ConstraintCmp i)) compare_named (get (codes "cmp") d))
    (λ compare h. agrees_fraction agg (location.field Field.ConstraintTo i) d) (λ compare to p. (tt, p.1)))
    (λ region c g h p. tt)) (λ agg c g h p. tt))))

-- ---- on an expression

linear_keys : (d : Data) → get (codes "agg") d ≡ None
    → is_object_of (codes "expr" ∷ codes "cmp" ∷ codes "to" ∷ []) d ≡ is_object_of constraint_keys d && is_none (get (codes "of") d)
linear_keys d e =
    sym (object_without [] (codes "expr" ∷ codes "cmp" ∷ codes "to" ∷ []) (codes "of") refl d)
    ∙ ap (λ b. b && is_none (get (codes "of") d)) (sym (object_without [] (codes "of" ∷ codes "expr" ∷ codes "cmp" ∷ codes "to" ∷ []) (codes "agg") refl d))
    ∙ ap (λ o. (is_object_of constraint_keys d && is_none o) && is_none (get (codes "of") d)) e ∙ ap (λ b. b && is_none (get (codes "of") d)) (and_true (is_object_of constraint_keys d))
  where
    and_true : (b : Bool) → b && true ≡ b
    and_true true = refl
    and_true false = refl

linear_expr : (n m : ℕ) (expr : Expr) (o : Option Compare) (p : Option ℤ) (c : Constraint) → option_and_then (λ compare. option_map (λ to. Linear expr compare to) p) o ≡ Some c → IsConstraint n m c → IsExpr n expr
linear_expr n m expr o p c e rules =
    let s = then_some (λ compare. option_map (λ to. Linear expr compare to) p) o c e in let t = map_some (λ to. Linear expr s.0 to) p c s.2 in
    let kept : IsConstraint n m (Linear expr s.0 t.0) = subst (IsConstraint n m) (sym t.2) rules in kept.0

agrees_linear : (n m : ℕ) (variables : List Variable) (i : ℕ) (d : Data) → get (codes "agg") d ≡ None
    → Agrees (IsConstraint n m) (linear_form variables d) (walk_object constraint_keys (location.item Part.Constraints i) d >>= (λ _. walk_linear variables i d))
unfolding linear_form walk_linear
agrees_linear n m variables i d e =
    let P = IsConstraint n m in
    agrees_form P _ _ _ (where-both _ (is_object_of constraint_keys d) (is_none (get (codes "of") d)) _ (linear_keys d e))
    (agrees_object P constraint_keys (location.item Part.Constraints i) d _ _
    (agrees_unless P (is_some (get (codes "of") d)) (QueryRefusal.Shape (location.field Field.ConstraintOf i)) _ _
    (λ no_of. agrees_form P _ _ _ (then-then _ (expr_form variables) (get (codes "expr") d))
    (agrees_found P (QueryRefusal.Shape (location.field Field.ConstraintExpr i)) (get (codes "expr") d) _ _
    (λ found f. agrees_then (IsExpr n) P (expr_form variables found) (walk_expr variables (location.field Field.ConstraintExpr i) found) _ _ (agrees_expr n variables (location.field Field.ConstraintExpr i) found)
    (λ expr g. agrees_two (λ (x : Compare). ⊤) (IsUpTo (2 ^ 31)) P (λ compare to. Linear expr compare to) _ _ (λ compare. whole_at (codes "to") d) _
    (agrees_word (λ (x : Compare). ⊤) (location.field Field.ConstraintCmp i) (QueryRefusal.Name (location.field Field.ConstraintCmp i)) compare_named (get (codes "cmp") d))
    (λ compare h. agrees_number (2 ^ 31) (location.field Field.ConstraintTo i) (get (codes "to") d) small_31) (λ compare to p. (tt, p.1)))
    (λ expr c g h p. linear_expr n m expr (option_and_then compare_named (text_at (codes "cmp") d)) (whole_at (codes "to") d) c h p))))))

-- ---- constraints

agrees_constraint : (n m : ℕ) (variables : List Variable) (regions : List Region) (i : ℕ) (d : Data) → Agrees (IsConstraint n m) (constraint_form variables regions d) (walk_constraint variables regions i d)
unfolding constraint_form walk_constraint
agrees_constraint n m variables regions i d = by (get (codes "agg") d) refl
  where
    by : (o : Option Data) → get (codes "agg") d ≡ o
        → Agrees (IsConstraint n m) (if is_none o then linear_form variables d else aggregate_form regions d)
        (walk_object constraint_keys (location.item Part.Constraints i) d >>= (λ _. option_map_or (λ agg. walk_aggregate regions i agg d) o (walk_linear variables i d)))
    by None e = agrees_linear n m variables i d e
    by (Some a) e = agrees_aggregate n m regions i a d e

pub agrees_constraints : (n m : ℕ) (variables : List Variable) (regions : List Region) (ds : List Data) → Agrees (All (IsConstraint n m)) (every (constraint_form variables regions) ds) (walk_constraints variables regions ds)
agrees_constraints n m variables regions ds =
    agrees_every (constraint_form variables regions) (λ before. walk_constraint variables regions (next_number before)) (IsConstraint n m) (λ before d. agrees_constraint n m variables regions (next_number before) d) ds
