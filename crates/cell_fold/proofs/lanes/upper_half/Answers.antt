use Rattle.std.proofs.Common.{◌/◌, ◌^◌}
use Rattle.std.proofs.lemmas.Simd.{zip2_splat}
use Rattle.cell_fold.proofs.lanes.upper_half.Goals as goal

pub returns : goal.returns
returns c = zip2_splat (λ a b. a / 2 ^ b) c.args.a 8 16 c.fits-a.0
