use Rattle.std.proofs.Common.{rules, ◌≡◌, ◌*◌, [], ◌∷◌, pos, get_or, refl, ◌∙◌, ap, arith}
use Rattle.cells.specs.Records.{record_of}
use Rattle.cells.specs.declared.side.Side.{Side}
use Rattle.lists.proofs.Short.{three_items}
use Rattle.cell_fold.proofs.Regions.{region-run, region-parts, region-within}
use Rattle.cell_fold.proofs.region.region_record.Goals as goal

pub planes_record-requires-clause-planes : goal.planes_record-requires-clause-planes
planes_record-requires-clause-planes c =
    let d : Side = record { from = pos 0; to = pos 0 } in
    let extents = c.args.shape.now.extents in
    let sides = c.args.sides.now in
    region-within extents sides (get_or extents 0 0) (get_or extents 1 0 ∷ get_or extents 2 0 ∷ []) (get_or sides 0 d) (get_or sides 1 d ∷ get_or sides 2 d ∷ []) c.args.cells.now
    (three_items extents 0 (search rules)) (three_items sides d c.told-sides) c.requires.cells c.requires.proper

pub returns-then-has_all-2-clause-record : goal.returns-then-has_all-2-clause-record
returns-then-has_all-2-clause-record c rank =
    let d : Side = record { from = pos 0; to = pos 0 } in
    let extents = c.args.shape.now.extents in
    let sides = c.args.sides.now in
    let one : get_or extents 1 0 * get_or extents 2 0 ≡ get_or extents 1 0 * (get_or extents 2 0 * 1) = omega arith in
    let all = c.if-has_all.ensures.0 refl in
    let all_2 = c.if-has_all-2.ensures.0 refl in
    c.run_record.ensures.record
    ∙ ap record_of (region-run rank (get_or extents 1 0 * get_or extents 2 0) extents sides (get_or extents 0 0) (get_or extents 1 0 ∷ get_or extents 2 0 ∷ []) (get_or sides 0 d) (get_or sides 1 d ∷ get_or sides 2 d ∷ []) c.args.cells.now
    (three_items extents 0 (search rules)) (three_items sides d c.told-sides) one c.requires.cells c.requires.proper (all.0, all.1, (all_2.0, all_2.1, tt)))

pub returns-else-has_all-clause-record : goal.returns-else-has_all-clause-record
returns-else-has_all-clause-record c rank =
    let d : Side = record { from = pos 0; to = pos 0 } in
    let extents = c.args.shape.now.extents in
    let sides = c.args.sides.now in
    c.planes_record.ensures.record
    ∙ ap record_of (region-parts rank 2 (get_or extents 1 0 * (get_or extents 2 0 * 1)) extents sides (get_or extents 0 0) (get_or extents 1 0 ∷ get_or extents 2 0 ∷ []) (get_or sides 0 d) (get_or sides 1 d ∷ get_or sides 2 d ∷ []) c.args.cells.now
    (three_items extents 0 (search rules)) (three_items sides d c.told-sides) refl c.requires.cells c.requires.proper)
