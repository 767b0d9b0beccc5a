use Rattle.std.proofs.Common.{◌≡◌, ◌*◌, ◌≤◌}
use Rattle.layouts.specs.Rules.{blocks_below}
use Rattle.layouts.proofs.numbers.LayoutNumbers.check_all_blocks.Given as goal

abbrev pub invariant-loop-level : goal.invariant-loop-level
invariant-loop-level l = record { all : l.all ≡ blocks_below l.self l.level; few : l.all ≤ 1152921504606846976 * l.level }
