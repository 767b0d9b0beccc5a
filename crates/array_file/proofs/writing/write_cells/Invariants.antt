use Rattle.std.proofs.Common.{◌≡◌, ◌-◌, ◌≤◌, length, take}
use Rattle.lists.specs.Appending.{appended}
use Rattle.array_file.specs.Written.{bytes_of_cells}
use Rattle.array_file.proofs.writing.write_cells.Given as goal

abbrev pub invariant-loop-done : goal.invariant-loop-done
invariant-loop-done g l =
    record {
      within : l.done ≤ length l.cells;
      written : g.K.Sink.written l.sink ≡ appended (g.K.Sink.written l.fn.sink) (bytes_of_cells (take l.done l.cells));
      faults : g.K.Sink.faults l.sink ≡ g.K.Sink.faults l.fn.sink;
    }

abbrev pub decreases-loop-done : goal.decreases-loop-done
decreases-loop-done g l = length l.cells - l.done
