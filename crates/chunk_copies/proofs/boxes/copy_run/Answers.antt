use Rattle.std.proofs.Common.{arith, length}
use Rattle.chunk_copies.proofs.Copies.{parts_fit}
use Rattle.chunk_copies.proofs.boxes.copy_run.Goals as goal

pub slice_bounds-copy_from_slice-end : goal.slice_bounds-copy_from_slice-end
slice_bounds-copy_from_slice-end c =
    let parts = c.args.parts.now in
    let fit = parts_fit parts.to parts.count parts.target c.args.size (length c.args.target.now) c.requires.parts.1 (omega (arith, c.requires.target)) in omega (arith, fit)

pub slice_bounds-copy_from_slice-end-2 : goal.slice_bounds-copy_from_slice-end-2
slice_bounds-copy_from_slice-end-2 c =
    let parts = c.args.parts.now in
    let fit = parts_fit parts.from parts.count parts.source c.args.size (length c.args.source.now) c.requires.parts.0 c.requires.source in omega (arith, fit)
