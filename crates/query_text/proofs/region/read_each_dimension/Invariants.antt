use Rattle.std.proofs.Common.{◌≡◌, ◌-◌, length, map, take, drop, replicate, pos, All}
use Rattle.query_model.specs.Rules.{IsExpr, constant_expr}
use Rattle.serde_json.specs.View.{view}
use Rattle.query_text.specs.Walk.{walk_fold, walk_each, appending, walk_dimension}
use Rattle.query_text.proofs.region.read_each_dimension.Given as goal

abbrev pub invariant-loop-d : goal.invariant-loop-d
invariant-loop-d l =
    record {
      walk : walk_fold (appending (walk_dimension l.variables l.at)) (take l.d l.exprs) (map view (drop l.d l.items)) ≡ walk_each (walk_dimension l.variables l.at) (map view l.items);
      count : length l.exprs ≡ 3;
      rest : drop l.d l.exprs ≡ replicate (3 - l.d) (constant_expr (pos l.rest));
      rules : All (IsExpr (length l.variables)) l.exprs;
    }
