use Rattle.std.proofs.Common.{◌+◌, ◌^◌, ◌<◌, ◌∙◌, arith, w32}
use Rattle.std.proofs.lemmas.Simd.{sum_fits, fold-sum}
use lib.Lanes.{sum_l}
use Rattle.cell_fold.proofs.lanes.total.Goals as goal

pub overflow_add-result : goal.overflow_add-result
overflow_add-result c = let fits : 0 + sum_l c.args.a < 2 ^ 32 = omega (arith, c.requires) in sum_fits w32 0 c.args.a fits

pub returns : goal.returns
returns c = fold-sum 0 c.args.a ∙ omega arith
