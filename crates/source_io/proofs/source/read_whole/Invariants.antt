use Rattle.std.proofs.Common.{length, take, ◌-◌, ◌≡◌, ◌+◌, ◌≤◌}
use Rattle.source_io.specs.Told.{Holds}
use Rattle.source_io.proofs.Reading.{AsksUpTo}
use Rattle.source_io.proofs.source.read_whole.Given as goal

abbrev pub invariant-loop-done : goal.invariant-loop-done
invariant-loop-done g l =
    let s = g.S.ByteSource in
    record {
      asked : AsksUpTo (s.step l.fn.src) (s.asked l.fn.src) (s.asked l.src) l.offset (l.offset + l.done) (l.offset + length l.fn.into);
      within : l.done ≤ length l.into;
      held : Holds (s.file l.fn.src).bytes l.offset l.done (take l.done l.into);
      faults : s.faults l.src ≡ s.faults l.fn.src;
      file : s.file l.src ≡ s.file l.fn.src;
      step : s.step l.src ≡ s.step l.fn.src;
    }

abbrev pub decreases-loop-done : goal.decreases-loop-done
decreases-loop-done g l = length l.initial.into - l.done
