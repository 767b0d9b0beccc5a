use Rattle.std.proofs.Common.{[], ◌∷◌, get_or, refl, arith}
use Rattle.chunk_copies.specs.declared.boxes.Stretch.{Stretch}
use Rattle.lists.proofs.Short.{two_items}
use Rattle.chunk_copies.proofs.Copies.{IsWhole, copied_run}
use Rattle.chunk_copies.proofs.boxes.copy_plane.Goals as goal

pub returns-then-is_whole : goal.returns-then-is_whole
returns-then-is_whole c =
    let d : Stretch = record { count = 0; source = 0; from = 0; target = 0; to = 0 } in
    let plane = c.args.plane.now in
    let rows = get_or plane 0 d in
    let columns = get_or plane 1 d in
    let whole : IsWhole columns = (c.if-is_whole.ensures.count refl, c.if-is_whole.ensures.same refl) in
    copied_run rows (columns ∷ []) plane columns.target c.args.source.now c.args.target.now c.copy_run.new.target (two_items plane d c.told-plane)
    (c.requires.within 0 d (omega (arith, c.told-plane))) ((whole, c.requires.within 1 d (omega (arith, c.told-plane))), tt) (omega arith) c.requires.target c.requires.source c.copy_run.ensures
