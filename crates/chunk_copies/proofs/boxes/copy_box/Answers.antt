use Rattle.std.proofs.Common.{◌*◌, [], ◌∷◌, get_or, refl, arith}
use Rattle.chunk_copies.specs.declared.boxes.Stretch.{Stretch}
use Rattle.lists.proofs.Short.{three_items}
use Rattle.chunk_copies.proofs.Copies.{IsWhole, copied_run}
use Rattle.chunk_copies.proofs.boxes.copy_box.Goals as goal

pub returns-then-is_whole-2 : goal.returns-then-is_whole-2
returns-then-is_whole-2 c =
    let d : Stretch = record { count = 0; source = 0; from = 0; target = 0; to = 0 } in
    let box = c.args.box_of.now in
    let planes = get_or box 0 d in
    let rows = get_or box 1 d in
    let columns = get_or box 2 d in
    let whole_rows : IsWhole rows = (c.if-is_whole.ensures.count refl, c.if-is_whole.ensures.same refl) in
    let whole_columns : IsWhole columns = (c.if-is_whole-2.ensures.count refl, c.if-is_whole-2.ensures.same refl) in
    copied_run planes (rows ∷ columns ∷ []) box (rows.target * columns.target) c.args.source.now c.args.target.now c.copy_run.new.target (three_items box d c.told-box_of)
    (c.requires.within 0 d (omega (arith, c.told-box_of))) ((whole_rows, c.requires.within 1 d (omega (arith, c.told-box_of))), ((whole_columns, c.requires.within 2 d (omega (arith, c.told-box_of))), tt)) (omega arith) c.requires.target c.requires.source c.copy_run.ensures
