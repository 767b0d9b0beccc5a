use Rattle.std.proofs.Common.{◌≡◌, ◌+◌, ◌*◌, [], ◌∷◌, length, refl, sym, ◌∙◌, arith}
use Rattle.chunk_copies.specs.Boxes.{source_size, target_size}
use Rattle.chunk_copies.proofs.Copies.{part_fits, source_left, target_left, copied_part, copied_run}
use Rattle.chunk_copies.proofs.boxes.copy_rows.Goals as goal

pub slice_bounds-copy_run-end-in-loop-r : goal.slice_bounds-copy_run-end-in-loop-r
slice_bounds-copy_run-end-in-loop-r c =
    let rows = c.args.rows.now in
    let same = c.loop-r.invariant.long in
    let fit = part_fits rows.to c.loop-r.r rows.count rows.target c.args.columns.now.target (length c.args.target.now) (c.loop-r-test.true) c.requires.rows.1 (omega (arith, c.requires.target)) in omega (arith, fit, same)

pub copy_run-requires-clause-source : goal.copy_run-requires-clause-source
copy_run-requires-clause-source c =
    let rows = c.args.rows.now in
    let size = c.args.columns.now.source in
    let left = source_left rows c.loop-r.r size ((rows.from + c.loop-r.r) * size) c.args.source.now c.loop-r-test.true c.requires.rows (omega (arith, c.requires.source)) refl in omega (arith, left)

pub loop-r-preserved : goal.loop-r-preserved
loop-r-preserved c =
    let rows = c.args.rows.now in
    let columns = c.args.columns.now in
    let one : target_size (columns ∷ []) ≡ columns.target = omega arith in
    let one_source : source_size (columns ∷ []) ≡ columns.source = omega arith in
    let left = source_left rows c.loop-r.r columns.source ((rows.from + c.loop-r.r) * columns.source) c.args.source.now c.loop-r-test.true c.requires.rows (omega (arith, c.requires.source)) refl in
    let one_size : columns.target ≡ columns.target * 1 = omega arith in
    copied_part rows (columns ∷ []) c.loop-r.r columns.target columns.source c.args.source.now c.args.target.now c.loop-r.target c.copy_run.new.target one one_source c.loop-r-test.true c.requires.rows c.requires.target c.loop-r.invariant
    (copied_run columns [] (columns ∷ []) 1 _ _ c.copy_run.new.target refl c.requires.columns tt refl
    (sym one_size ∙ target_left rows c.loop-r.r columns.target ((rows.to + c.loop-r.r) * columns.target) c.args.target.now c.loop-r.target c.loop-r-test.true c.requires.rows (omega (arith, c.requires.target)) c.loop-r.invariant.long refl)
    (omega (arith, left)) c.copy_run.ensures)
