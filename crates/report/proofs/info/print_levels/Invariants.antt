use Rattle.std.proofs.Common.{◌≡◌, ◌≤◌, flat_map}
use Rattle.std.specs.List.{range_with_len}
use Rattle.lists.specs.Appending.{appended}
use Rattle.report.specs.InfoText.{level_line}
use Rattle.report.proofs.info.print_levels.Given as goal

abbrev pub invariant-loop-level : goal.invariant-loop-level
invariant-loop-level g l =
    record {
      within : l.level ≤ l.level-end;
      written : g.K.Sink.written l.sink ≡ appended (g.K.Sink.written l.fn.sink) (flat_map (level_line l.layout) (range_with_len 0 l.level));
      faults : g.K.Sink.faults l.sink ≡ g.K.Sink.faults l.fn.sink;
    }
