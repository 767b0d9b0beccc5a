use Rattle.std.proofs.Common.{◌≡◌, ◌+◌, ◌*◌, ◌≤◌, ◌++◌, length, take, flat_map}
use Rattle.report.specs.InfoText.{item}
use Rattle.report.proofs.info.push_items.Given as goal

abbrev pub invariant-loop-n : goal.invariant-loop-n
invariant-loop-n l =
    record {
      text : l.line ≡ l.fn.line ++ flat_map item (take l.n-index (take l.rank l.fn.numbers));
      short : length l.line ≤ length l.fn.line + 41 * l.n-index;
    }
