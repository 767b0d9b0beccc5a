use Rattle.std.proofs.Common.{◌≡◌, take}
use Rattle.cell_fold.specs.Lanes.{least_of_lanes}
use Rattle.cell_fold.proofs.lanes.least_of_lanes.Given as goal

abbrev pub invariant-loop-n : goal.invariant-loop-n
invariant-loop-n l = l.all ≡ least_of_lanes (take l.n-index l.numbers)
