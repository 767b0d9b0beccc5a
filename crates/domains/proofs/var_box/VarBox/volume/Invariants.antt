use Rattle.std.proofs.Common.{◌≡◌, take}
use Rattle.domains.specs.VarBoxes.{size_product}
use Rattle.domains.proofs.var_box.VarBox.volume.Given as goal

abbrev pub invariant-loop-d : goal.invariant-loop-d
invariant-loop-d l = l.points ≡ size_product (take l.d-index l.d-items)
