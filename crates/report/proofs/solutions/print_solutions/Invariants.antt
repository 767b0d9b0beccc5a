use Rattle.std.proofs.Common.{◌≡◌, take}
use Rattle.lists.specs.Appending.{appended}
use Rattle.query_model.specs.Text.{lines_of}
use Rattle.report.proofs.solutions.print_solutions.Given as goal

abbrev pub invariant-loop-point : goal.invariant-loop-point
invariant-loop-point g l =
    record {
      written : g.K.Sink.written l.sink ≡ appended (g.K.Sink.written l.fn.sink) (lines_of l.query (take l.point-index l.points));
      faults : g.K.Sink.faults l.sink ≡ g.K.Sink.faults l.fn.sink;
    }
