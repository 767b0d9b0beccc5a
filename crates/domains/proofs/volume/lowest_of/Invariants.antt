use Rattle.std.proofs.Common.{◌≡◌, take}
use Rattle.domains.specs.VarBoxes.{lowest}
use Rattle.domains.proofs.volume.lowest_of.Given as goal

abbrev pub invariant-loop-d : goal.invariant-loop-d
invariant-loop-d l = l.corner ≡ lowest (take l.d-index l.d-items)
