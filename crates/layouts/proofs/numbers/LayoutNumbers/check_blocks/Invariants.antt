use Rattle.std.proofs.Common.{◌≡◌, ◌<◌, ℕ, None}
use Rattle.lists.specs.Rules.{first_broken}
use Rattle.layouts.specs.Rules.{block_rules_of}
use Rattle.layouts.proofs.numbers.LayoutNumbers.check_blocks.Given as goal

abbrev pub invariant-loop-level : goal.invariant-loop-level
invariant-loop-level l = (k : ℕ) → k < l.level → first_broken (block_rules_of l.self k) ≡ None
