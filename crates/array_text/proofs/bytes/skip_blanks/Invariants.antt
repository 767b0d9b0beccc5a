use Rattle.std.proofs.Common.{◌≡◌, drop}
use Rattle.array_text.specs.Words.{words}
use Rattle.array_text.proofs.bytes.skip_blanks.Given as goal

abbrev pub invariant-loop-i : goal.invariant-loop-i
invariant-loop-i l = words (drop l.i l.bytes) ≡ words l.bytes
