use Rattle.std.proofs.Common.{rules, ◌≡◌, ◌+◌, ◌-◌, ◌*◌, ◌^◌, ◌≤◌, ◌<◌, [], ◌∷◌, ◌∙◌, ap, take, drop, SFits, w64, unsigned_abs, arith, length-take}
use Rattle.std.specs.List.{flat_map, range_with_len}
use Rattle.std.proofs.lemmas.Int.{to_z-of_z}
use Rattle.cells.specs.Array.{present_cells}
use Rattle.cells.specs.Cells.{array_of}
use Rattle.cells.specs.Records.{record_of}
use Rattle.cells.specs.declared.cell.Cell.{Cell}
use Rattle.cell_fold.proofs.Passes.{pass-more}
use Rattle.lists.proofs.Folds.{sums-fit}
use Rattle.cell_fold.proofs.Regions.{start, part, room, unsigned_abs-le, present_cells-line}
use Rattle.cell_fold.proofs.region.rows_record.Goals as goal

pub merge-all-requires-clause-sum : goal.merge-all-requires-clause-sum
merge-all-requires-clause-sum c =
    let pass = c.loop-r.invariant in
    let to_fits : SFits w64 c.args.along.now.to = search rules in
    let below : c.loop-r.r < unsigned_abs c.args.along.now.to = simp to_z-of_z at c.loop-r-test.true in
    let inside = room c.loop-r.r c.args.columns (unsigned_abs c.args.along.now.to) below in
    let few : c.loop-r.all.count + c.run_record.result.count ≤ 2 ^ 26 = omega (arith, inside, pass.few, c.run_record.ensures.few, length-take {A = Cell}) in
    sums-fit c.loop-r.all.sum c.run_record.result.sum c.loop-r.all.count c.run_record.result.count pass.within c.run_record.ensures.each few

pub loop-r-preserved : goal.loop-r-preserved
loop-r-preserved c =
    let from_fits : SFits w64 c.args.along.now.from = search rules in
    let to_fits : SFits w64 c.args.along.now.to = search rules in
    let begun : unsigned_abs c.args.along.now.from ≤ c.loop-r.r = simp to_z-of_z at c.loop-r.auto.r in
    let below : c.loop-r.r < unsigned_abs c.args.along.now.to = simp to_z-of_z at c.loop-r-test.true in
    let inside = room c.loop-r.r c.args.columns (unsigned_abs c.args.along.now.to) below in
    let width : (c.loop-r.r * c.args.columns + c.args.columns) - c.loop-r.r * c.args.columns ≡ c.args.columns = omega arith in
    let row = present_cells-line c.args.columns c.loop-r.r ((c.loop-r.r * c.args.columns + c.args.columns) - c.loop-r.r * c.args.columns) c.args.across.now c.args.cells.now c.requires.across width (omega (arith, inside, c.requires.rows)) in
    let small : c.run_record.result.count ≤ c.args.columns = omega (arith, width, c.run_record.ensures.few, length-take {A = Cell}) in
    pass-more (λ r. present_cells (array_of 1 (c.args.columns ∷ []) (part c.args.columns r c.args.cells.now)) (c.args.across.now ∷ [])) (start c.args.along.now) c.loop-r.r c.args.columns c.loop-r.all c.run_record.result c.merge-all.result
    begun c.loop-r.invariant (c.run_record.ensures.record ∙ ap record_of row) small c.run_record.ensures.each c.merge-all.ensures.meant c.merge-all.ensures.count c.merge-all.ensures.each

pub returns-clause-record : goal.returns-clause-record
returns-clause-record c =
    let pass = c.loop-r.invariant in
    let from_fits : SFits w64 c.args.along.now.from = search rules in
    let to_fits : SFits w64 c.args.along.now.to = search rules in
    let done : unsigned_abs c.args.along.now.to ≤ c.loop-r.r = simp to_z-of_z at c.loop-r-test.false in
    let within : unsigned_abs c.args.along.now.from ≤ unsigned_abs c.args.along.now.to → c.loop-r.r ≤ unsigned_abs c.args.along.now.to = simp to_z-of_z at c.loop-r.auto.r-end in
    let last : c.loop-r.r ≡ unsigned_abs c.args.along.now.to =
    let up = within (unsigned_abs-le c.args.along.now.from c.args.along.now.to c.requires.from c.requires.ordered) in omega arith in
    pass.is ∙ ap (λ m. record_of (flat_map (λ r. present_cells (array_of 1 (c.args.columns ∷ []) (take c.args.columns (drop (r * c.args.columns) c.args.cells.now))) (c.args.across.now ∷ [])) (range_with_len (unsigned_abs c.args.along.now.from) (m - unsigned_abs c.args.along.now.from)))) last
