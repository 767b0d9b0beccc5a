use Rattle.std.proofs.Common.{◌≡◌, length, map, drop}
use Rattle.serde_json.specs.View.{view}
use Rattle.query_text.specs.Sums.{IsSum, empty_sum}
use Rattle.query_text.specs.Walk.{walk_fold, walk_item}
use Rattle.query_text.proofs.expression.read_sum.Given as goal

abbrev pub invariant-loop-item : goal.invariant-loop-item
invariant-loop-item l =
    record {
      walk : walk_fold (walk_item l.variables l.at) l.sum (map view (drop l.item-index l.items)) ≡ walk_fold (walk_item l.variables l.at) empty_sum (map view l.items);
      rules : IsSum (length l.variables) l.sum;
    }
