use Rattle.std.proofs.Common.{◌≡◌, ◌∙◌, ◌+◌, [], ◌∷◌, ap, take, get_or, arith}
use Rattle.std.proofs.lemmas.List.{take_more}
use Rattle.cell_fold.specs.Lanes.{greatest_of_lanes}
use Rattle.cell_fold.proofs.LaneSums.{greatest_of_lanes-append}
use Rattle.cell_fold.proofs.lanes.greatest_of_lanes.Goals as goal
use Rattle.cell_fold.proofs.lanes.greatest_of_lanes.Goals.{then-n-all, else-n-all}

pub loop-n-preserved : goal.loop-n-preserved
loop-n-preserved c =
    let ns = c.args.numbers.now in
    let i = c.loop-n.n-index in
    let more = ap greatest_of_lanes (take_more ns i 0 c.loop-n-test.true) ∙ greatest_of_lanes-append (take i ns) (get_or ns i 0 ∷ []) in
    let so_far = c.loop-n.invariant in
    let next : c.if-n-all.all ≡ greatest_of_lanes (take (i + 1) ns) = elim c.if-n-all.branch [ then-n-all w ↦ omega arith | else-n-all w ↦ omega arith ] in
    next
