use Rattle.std.proofs.Common.{◌≡◌, ◌*◌, [], ◌∷◌, pos, get_or, refl, ◌∙◌, ap, arith}
use Rattle.cells.specs.Records.{record_of}
use Rattle.cells.specs.declared.side.Side.{Side}
use Rattle.lists.proofs.Short.{two_items}
use Rattle.cell_fold.proofs.Regions.{region-run, region-parts}
use Rattle.cell_fold.proofs.region.plane_record.Goals as goal

pub returns-then-has_all-clause-record : goal.returns-then-has_all-clause-record
returns-then-has_all-clause-record c =
    let d : Side = record { from = pos 0; to = pos 0 } in
    let n = get_or c.args.extents.now 1 0 in
    let one : get_or c.args.extents.now 1 0 ≡ get_or c.args.extents.now 1 0 * 1 = omega arith in
    let all = c.if-has_all.ensures.0 refl in
    c.run_record.ensures.record
    ∙ ap record_of (region-run 2 n c.args.extents.now c.args.sides.now (get_or c.args.extents.now 0 0) (n ∷ []) (get_or c.args.sides.now 0 d) (get_or c.args.sides.now 1 d ∷ []) c.args.cells.now
    (two_items c.args.extents.now 0 c.told-extents) (two_items c.args.sides.now d c.told-sides) one c.requires.cells c.requires.proper (all.0, all.1, tt))

pub returns-else-has_all-clause-record : goal.returns-else-has_all-clause-record
returns-else-has_all-clause-record c =
    let d : Side = record { from = pos 0; to = pos 0 } in
    let n = get_or c.args.extents.now 1 0 in
    let one : get_or c.args.extents.now 1 0 ≡ get_or c.args.extents.now 1 0 * 1 = omega arith in
    c.rows_record.ensures.record
    ∙ ap record_of (region-parts 2 1 n c.args.extents.now c.args.sides.now (get_or c.args.extents.now 0 0) (n ∷ []) (get_or c.args.sides.now 0 d) (get_or c.args.sides.now 1 d ∷ []) c.args.cells.now
    (two_items c.args.extents.now 0 c.told-extents) (two_items c.args.sides.now d c.told-sides) one c.requires.cells c.requires.proper)
