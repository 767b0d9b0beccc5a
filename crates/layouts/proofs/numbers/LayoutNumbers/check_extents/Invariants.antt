use Rattle.std.proofs.Common.{◌≡◌, ◌<◌, ℕ, true}
use Rattle.layouts.specs.Rules.{extent_rule}
use Rattle.layouts.proofs.numbers.LayoutNumbers.check_extents.Given as goal

abbrev pub invariant-loop-dim : goal.invariant-loop-dim
invariant-loop-dim l = (d : ℕ) → d < l.dim → (extent_rule l.self d).0 ≡ true
