use Rattle.std.proofs.Common.{◌≡◌, ◌<◌, ℕ, true}
use Rattle.layouts.specs.Rules.{chunk_rule}
use Rattle.layouts.proofs.numbers.LayoutNumbers.check_chunk.Given as goal

abbrev pub invariant-loop-dim : goal.invariant-loop-dim
invariant-loop-dim l = (d : ℕ) → d < l.dim → (chunk_rule l.self d).0 ≡ true
