use Rattle.std.proofs.Common.{◌≡◌, ◌≢◌, length, map, drop, All, AllPairs}
use Rattle.query_model.specs.Rules.{IsVariable}
use Rattle.query_model.specs.declared.parts.Variable.{Variable}
use Rattle.serde_json.specs.View.{view}
use Rattle.query_text.specs.Walk.{walk_fold, walk_each, appending, walk_variable}
use Rattle.query_text.proofs.variable.read_variables.Given as goal

abbrev pub invariant-loop-item : goal.invariant-loop-item
invariant-loop-item l =
    record {
      walk : walk_fold (appending walk_variable) l.variables.items (map view (drop l.item-index l.items)) ≡ walk_each walk_variable (map view l.items);
      count : length l.variables.items ≡ l.item-index;
      rules : All IsVariable l.variables.items;
      names : AllPairs (λ (v w : Variable). v.name ≢ w.name) l.variables.items;
    }
