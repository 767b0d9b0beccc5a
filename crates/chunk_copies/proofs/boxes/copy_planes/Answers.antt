use Rattle.std.proofs.Common.{rules, ◌+◌, ◌*◌, ◌<◌, ◌^◌, get_or, length, ap, refl, arith}
use Rattle.chunk_copies.specs.declared.boxes.Stretch.{Stretch}
use Rattle.chunk_copies.proofs.Copies.{part_fits, source_left, copied_part, sizes-two}
use Rattle.chunk_copies.proofs.boxes.copy_planes.Goals as goal

pub overflow_add-to-in-loop-p : goal.overflow_add-to-in-loop-p
overflow_add-to-in-loop-p c =
    let d : Stretch = record { count = 0; source = 0; from = 0; target = 0; to = 0 } in
    let planes = c.args.planes.now in
    let sizes = sizes-two c.args.plane.now d c.told-plane in
    let size = ap (λ n. planes.target * n) sizes.0 in
    let small : length c.args.target.now * 4 < 2 ^ 64 = search rules in
    let fit = part_fits planes.to c.loop-p.p planes.count planes.target ((get_or c.args.plane.now 0 d).target * (get_or c.args.plane.now 1 d).target) (length c.args.target.now) c.loop-p-test.true c.requires.planes.1 (omega (arith, c.requires.target, size)) in omega (arith, fit, small)

pub offset_bounds-target-to : goal.offset_bounds-target-to
offset_bounds-target-to c =
    let d : Stretch = record { count = 0; source = 0; from = 0; target = 0; to = 0 } in
    let planes = c.args.planes.now in
    let sizes = sizes-two c.args.plane.now d c.told-plane in
    let size = ap (λ n. planes.target * n) sizes.0 in
    let small : length c.args.target.now * 4 < 2 ^ 64 = search rules in
    let fit = part_fits planes.to c.loop-p.p planes.count planes.target ((get_or c.args.plane.now 0 d).target * (get_or c.args.plane.now 1 d).target) (length c.args.target.now) c.loop-p-test.true c.requires.planes.1 (omega (arith, c.requires.target, size)) in omega (arith, fit, small)

pub slice_bounds-copy_plane-end-in-loop-p : goal.slice_bounds-copy_plane-end-in-loop-p
slice_bounds-copy_plane-end-in-loop-p c =
    let d : Stretch = record { count = 0; source = 0; from = 0; target = 0; to = 0 } in
    let planes = c.args.planes.now in
    let same = c.loop-p.invariant.long in
    let sizes = sizes-two c.args.plane.now d c.told-plane in
    let size = ap (λ n. planes.target * n) sizes.0 in
    let fit = part_fits planes.to c.loop-p.p planes.count planes.target ((get_or c.args.plane.now 0 d).target * (get_or c.args.plane.now 1 d).target) (length c.args.target.now) c.loop-p-test.true c.requires.planes.1 (omega (arith, c.requires.target, size)) in omega (arith, fit, same)

pub copy_plane-requires-clause-source : goal.copy_plane-requires-clause-source
copy_plane-requires-clause-source c =
    let d : Stretch = record { count = 0; source = 0; from = 0; target = 0; to = 0 } in
    let planes = c.args.planes.now in
    let sizes = sizes-two c.args.plane.now d c.told-plane in
    let size = (get_or c.args.plane.now 0 d).source * (get_or c.args.plane.now 1 d).source in
    let all = ap (λ n. planes.source * n) sizes.1 in
    let left = source_left planes c.loop-p.p size ((planes.from + c.loop-p.p) * size) c.args.source.now c.loop-p-test.true c.requires.planes (omega (arith, c.requires.source, all)) refl in omega (arith, left, sizes.1)

pub loop-p-preserved : goal.loop-p-preserved
loop-p-preserved c =
    let d : Stretch = record { count = 0; source = 0; from = 0; target = 0; to = 0 } in
    let plane = c.args.plane.now in
    let sizes = sizes-two plane d c.told-plane in
    copied_part c.args.planes.now plane c.loop-p.p ((get_or plane 0 d).target * (get_or plane 1 d).target) ((get_or plane 0 d).source * (get_or plane 1 d).source) c.args.source.now c.args.target.now c.loop-p.target c.copy_plane.new.target
    sizes.0 sizes.1 c.loop-p-test.true c.requires.planes c.requires.target c.loop-p.invariant c.copy_plane.ensures
