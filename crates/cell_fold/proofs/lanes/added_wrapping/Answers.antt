use Rattle.std.proofs.Common.{sym, ◌∙◌}
use Rattle.cell_fold.proofs.LaneSums.{sum_l-wrapping}
use Rattle.cell_fold.proofs.lanes.added_wrapping.Goals as goal

pub returns : goal.returns
returns c = sum_l-wrapping c.args.a c.args.b (c.fits-a.0 ∙ sym c.fits-b.0)
