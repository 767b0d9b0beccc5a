use Rattle.std.proofs.Common.{◌≡◌, ◌≤◌, length}
use Rattle.domains.proofs.NextPoint.{Reset}
use Rattle.domains.proofs.walk.advance.Given as goal

abbrev pub invariant-loop-v : goal.invariant-loop-v
invariant-loop-v l =
    record {
      within : l.v ≤ length l.b;
      long : length l.p ≡ length l.fn.p;
      reset : Reset l.b l.fn.p l.p l.v;
    }

abbrev pub decreases-loop-v : goal.decreases-loop-v
decreases-loop-v l = l.v
