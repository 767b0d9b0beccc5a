use Rattle.std.proofs.Common.{◌∙◌, arith}
use Rattle.cell_fold.proofs.LaneSums.{halves_below, halves_above}
use Rattle.cell_fold.proofs.lanes.LaneSum.total.Goals as goal

pub returns-clause-value : goal.returns-clause-value
returns-clause-value c ns now few =
    let halves = c.total-halves.ensures ∙ now.halves in
    let low = c.total_wrapping.ensures ∙ now.low in
    omega (arith, halves, low, halves_below ns, halves_above ns, few)
