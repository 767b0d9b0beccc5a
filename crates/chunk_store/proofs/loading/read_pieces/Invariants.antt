use Rattle.std.proofs.Common.{length, take, ◌-◌, ◌≡◌, ◌+◌, ◌*◌, ◌≤◌}
use Rattle.chunk_store.specs.Loaded.{HoldsFrom}
use Rattle.chunk_store.specs.Pieces.{AsksPieces}
use Rattle.chunk_store.proofs.loading.read_pieces.Given as goal

abbrev pub invariant-loop-done : goal.invariant-loop-done
invariant-loop-done g l =
    let s = g.S.ByteSource in
    record {
      within : l.done ≤ length l.cells;
      held : HoldsFrom (s.file l.fn.src).bytes l.at (take l.done l.cells);
      faults : s.faults l.src ≡ s.faults l.fn.src;
      asked : AsksPieces (s.asked l.fn.src) (s.asked l.src) l.at (l.at + 4 * l.done);
      file : s.file l.src ≡ s.file l.fn.src;
    }

abbrev pub decreases-loop-done : goal.decreases-loop-done
decreases-loop-done g l = length l.initial.cells - l.done
