use Rattle.std.proofs.Common.{◌+◌, ◌-◌, ◌%◌, ◌^◌}
use Rattle.std.proofs.lemmas.Simd.{zip2_splat}
use Rattle.cell_fold.proofs.lanes.lowered.Goals as goal

pub returns : goal.returns
returns c = zip2_splat (λ a b. (a + (2 ^ 32 - b)) % 2 ^ 32) c.args.a 8 1 c.fits-a.0
