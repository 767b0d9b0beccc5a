use Rattle.std.proofs.Common.{◌≡◌, ◌<◌, ℕ, true}
use Rattle.layouts.specs.Rules.{block_rule}
use Rattle.layouts.proofs.numbers.LayoutNumbers.check_blocks_of.Given as goal

abbrev pub invariant-loop-dim : goal.invariant-loop-dim
invariant-loop-dim l = (d : ℕ) → d < l.dim → (block_rule l.self l.level d).0 ≡ true
