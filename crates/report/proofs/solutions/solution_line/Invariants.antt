use Rattle.std.proofs.Common.{◌≡◌, ◌*◌, ◌≤◌, length, take}
use Rattle.std.specs.List.{join_with_byte}
use Rattle.query_model.specs.Text.{fields_of}
use Rattle.report.proofs.solutions.solution_line.Given as goal

abbrev pub invariant-loop-i : goal.invariant-loop-i
invariant-loop-i l =
    record {
      text : l.line ≡ join_with_byte 32 (fields_of (take l.i l.variables) l.point);
      short : length l.line ≤ 45 * l.i;
    }
