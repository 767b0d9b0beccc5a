use Rattle.std.proofs.Common.{◌≡◌, length}
use Rattle.lists.specs.Appending.{appended}
use Rattle.layouts.specs.Chunks.{chunk_cells}
use Rattle.array_file.specs.Written.{bytes_of_chunks}
use Rattle.array_file.proofs.writing.write_each.Given as goal

abbrev pub invariant-loop-n : goal.invariant-loop-n
invariant-loop-n g l =
    record {
      long : length l.chunk ≡ chunk_cells l.layout;
      written : g.K.Sink.written l.sink ≡ appended (g.K.Sink.written l.fn.sink) (bytes_of_chunks l.layout l.cells l.n);
      faults : g.K.Sink.faults l.sink ≡ g.K.Sink.faults l.fn.sink;
    }
