use Rattle.std.proofs.Common.{◌≡◌, ◌+◌, ◌*◌, ◌-◌, ◌∙◌, length, take, drop, length-take, length-drop, arith, rules, subst, refl}
use Rattle.std.proofs.lemmas.Grind.{common_steps}
use Rattle.source_io.specs.Source.{StoredFile}
use Rattle.cells.specs.declared.cell.Cell.{Cell}
use Rattle.chunk_store.specs.Loaded.{HoldsFrom}
use Rattle.chunk_store.specs.Pieces.{AsksPieces}
use Rattle.chunk_store.proofs.Pieces.{asks_none, asks_after, asks_wider}
use Rattle.chunk_store.proofs.Held.{holds_none, holds_more}
use Rattle.chunk_store.proofs.loading.read_pieces.Goals as goal

pub loop-done-init : goal.loop-done-init
loop-done-init g c =
    record {
      within = omega arith;
      held = holds_none _ _;
      faults = refl;
      asked = asks_none _ _ _;
      file = cc;
    }

pub returns-in_err-read_piece-clause-asked : goal.returns-in_err-read_piece-clause-asked
returns-in_err-read_piece-clause-asked g c =
    asks_wider _ _ _ _ _ _ (omega arith) (omega (arith, length-take {A = Cell}, length-drop {A = Cell}))
    (asks_after _ _ _ _ _ _ (omega arith) (omega arith) c.loop-done.invariant.asked c.read_piece.ensures.asked)

pub loop-done-preserved : goal.loop-done-preserved
loop-done-preserved g c =
    let s = g.S.ByteSource in
    let before = c.loop-done.invariant in
    let cells = c.loop-done.cells in
    let n = c.loop-done.done in
    let m = c.min-n.result in
    let at = c.args.at in
    let long : length c.read_piece.new.cells ≡ m = omega (arith, c.read_piece.auto.cells, c.min-n.ensures, length-take {A = Cell}, length-drop {A = Cell}) in
    let piece = subst (λ (file : StoredFile). HoldsFrom file.bytes (at + 4 * n) c.read_piece.new.cells) before.file c.in_ok-read_piece.ensures.cells in
    let asked = asks_after _ _ _ _ _ _ (omega arith) (omega arith) before.asked c.read_piece.ensures.asked in
    let end : at + 4 * n + 4 * length (take (n + m - n) (drop n cells)) ≡ at + 4 * (n + m) = omega (arith, c.min-n.ensures, length-take {A = Cell}, length-drop {A = Cell}) in
    record {
      within = search (rules, common_steps);
      held = holds_more _ at n m _ cells c.read_piece.new.cells before.within long before.held piece;
      faults = c.in_ok-read_piece.ensures.no_fault ∙ before.faults;
      asked = subst (AsksPieces (s.asked c.args.src.now) (s.asked c.read_piece.new.src) at) end asked;
      file = cc;
    }
