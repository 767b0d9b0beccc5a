use Rattle.std.proofs.Common.{◌≡◌, ◌∙◌, ◌+◌, [], ◌∷◌, ap, take, get_or, arith}
use Rattle.std.proofs.lemmas.List.{take_more}
use Rattle.cell_fold.specs.Lanes.{least_of_lanes}
use Rattle.cell_fold.proofs.LaneSums.{least_of_lanes-append, lowest_le}
use Rattle.cell_fold.proofs.lanes.least_of_lanes.Goals as goal
use Rattle.cell_fold.proofs.lanes.least_of_lanes.Goals.{then-n-all, else-n-all}

pub loop-n-preserved : goal.loop-n-preserved
loop-n-preserved c =
    let ns = c.args.numbers.now in
    let i = c.loop-n.n-index in
    let more = ap least_of_lanes (take_more ns i 0 c.loop-n-test.true) ∙ least_of_lanes-append (take i ns) (get_or ns i 0 ∷ []) in
    let so_far = c.loop-n.invariant in
    let below = lowest_le (take i ns) in
    let next : c.if-n-all.all ≡ least_of_lanes (take (i + 1) ns) = elim c.if-n-all.branch [ then-n-all w ↦ omega arith | else-n-all w ↦ omega arith ] in
    next
