use Rattle.std.proofs.Common.{◌≡◌, length, map, drop, All}
use Rattle.query_model.specs.Rules.{IsConstraint}
use Rattle.serde_json.specs.View.{view}
use Rattle.query_text.specs.Walk.{walk_fold, walk_constraints, appending, walk_constraint, next_number}
use Rattle.query_text.proofs.constraint.read_constraints.Given as goal

abbrev pub invariant-loop-item : goal.invariant-loop-item
invariant-loop-item l =
    record {
      walk : walk_fold (appending (λ before. walk_constraint l.variables l.regions (next_number before))) l.constraints.items (map view (drop l.item-index l.items)) ≡ walk_constraints l.variables l.regions (map view l.items);
      count : length l.constraints.items ≡ l.item-index;
      rules : All (IsConstraint (length l.variables) (length l.regions)) l.constraints.items;
    }
