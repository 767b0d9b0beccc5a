use Rattle.std.proofs.Common.{length, length-take, arith, ℕ}
use Rattle.chunk_store.proofs.Pieces.{asks_piece, asks_wider}
use Rattle.chunk_store.proofs.Held.{holds_piece}
use Rattle.chunk_store.proofs.loading.read_piece.Goals as goal

pub returns-in_err-read_whole-clause-asked : goal.returns-in_err-read_whole-clause-asked
returns-in_err-read_whole-clause-asked g c =
    asks_wider _ _ _ _ _ _ (omega arith) (omega (arith, length-take {A = ℕ}))
    (asks_piece _ _ _ _ (omega (arith, length-take {A = ℕ}, c.requires.few)) c.read_whole.ensures.asked)

pub returns-clause-cells : goal.returns-clause-cells
returns-clause-cells g c =
    holds_piece _ _ (length c.args.cells.now) _ c.read_whole.new.into c.put_cells.new.cells (omega (arith, length-take {A = ℕ}, c.requires.room, c.requires.few)) c.in_ok-read_whole.ensures.bytes c.put_cells.ensures

pub returns-clause-asked : goal.returns-clause-asked
returns-clause-asked g c =
    asks_wider _ _ _ _ _ _ (omega arith) (omega (arith, length-take {A = ℕ}))
    (asks_piece _ _ _ _ (omega (arith, length-take {A = ℕ}, c.requires.few)) c.read_whole.ensures.asked)
