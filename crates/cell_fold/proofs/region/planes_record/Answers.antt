use Rattle.std.proofs.Common.{rules, ◌+◌, ◌*◌, ◌^◌, ◌≤◌, ◌<◌, get_or, ◌∙◌, ap, SFits, w64, unsigned_abs}
use Rattle.std.proofs.lemmas.Int.{to_z-of_z}
use Rattle.cells.specs.Array.{present_cells}
use Rattle.cells.specs.Cells.{array_of}
use Rattle.lists.specs.Numbers.{product}
use Rattle.cells.specs.Records.{record_of}
use Rattle.cell_fold.proofs.Passes.{pass-more, le-le, sum-le}
use Rattle.lists.proofs.Folds.{sums-fit}
use Rattle.lists.proofs.Short.{product-two}
use Rattle.cell_fold.proofs.Regions.{start, part, room, part-cut, length-part_cut-le}
use Rattle.cell_fold.proofs.region.planes_record.Goals as goal

pub merge-all-requires-clause-sum : goal.merge-all-requires-clause-sum
merge-all-requires-clause-sum c =
    let pass = c.loop-p.invariant in
    let size = product-two c.args.plane.now c.told-plane in
    let to_fits : SFits w64 c.args.along.now.to = search rules in
    let below : c.loop-p.p < unsigned_abs c.args.along.now.to = simp to_z-of_z at c.loop-p-test.true in
    let inside = room c.loop-p.p (product c.args.plane.now) (unsigned_abs c.args.along.now.to) below in
    let small = length-part_cut-le c.loop-p.p (get_or c.args.plane.now 0 0 * get_or c.args.plane.now 1 0) (product c.args.plane.now) c.args.cells.now size in
    let few : c.loop-p.all.count + c.plane_record.result.count ≤ 2 ^ 26 = sum-le _ _ _ _ _ _ _ pass.few c.plane_record.ensures.few small inside c.requires.planes c.requires.few in
    sums-fit c.loop-p.all.sum c.plane_record.result.sum c.loop-p.all.count c.plane_record.result.count pass.within c.plane_record.ensures.each few

pub loop-p-preserved : goal.loop-p-preserved
loop-p-preserved c =
    let size = product-two c.args.plane.now c.told-plane in
    let from_fits : SFits w64 c.args.along.now.from = search rules in
    let begun : unsigned_abs c.args.along.now.from ≤ c.loop-p.p = simp to_z-of_z at c.loop-p.auto.p in
    let cut = part-cut c.loop-p.p (get_or c.args.plane.now 0 0 * get_or c.args.plane.now 1 0) (product c.args.plane.now) c.args.cells.now size in
    let small = length-part_cut-le c.loop-p.p (get_or c.args.plane.now 0 0 * get_or c.args.plane.now 1 0) (product c.args.plane.now) c.args.cells.now size in
    pass-more (λ p. present_cells (array_of 2 c.args.plane.now (part (product c.args.plane.now) p c.args.cells.now)) c.args.across.now) (start c.args.along.now) c.loop-p.p (product c.args.plane.now) c.loop-p.all c.plane_record.result c.merge-all.result
    begun c.loop-p.invariant (c.plane_record.ensures.record ∙ ap (λ l. record_of (present_cells (array_of 2 c.args.plane.now l) c.args.across.now)) cut) (le-le _ _ _ c.plane_record.ensures.few small) c.plane_record.ensures.each c.merge-all.ensures.meant c.merge-all.ensures.count c.merge-all.ensures.each
