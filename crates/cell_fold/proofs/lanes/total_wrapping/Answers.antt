use Rattle.std.proofs.Common.{◌∙◌, arith}
use Rattle.cell_fold.proofs.LaneSums.{fold-wrapping}
use Rattle.cell_fold.proofs.lanes.total_wrapping.Goals as goal

pub returns : goal.returns
returns c = fold-wrapping 0 c.args.a ∙ omega arith
