use Rattle.std.proofs.Common.{◌+◌, ◌*◌, pos, arith}
use Rattle.std.proofs.lemmas.List.FromFn.{fill_by_all}
use Rattle.cells.specs.declared.cell.Cell.{Cell}
use Rattle.array_file.specs.Stored.{cell_at}
use Rattle.chunk_store.specs.Loaded.{cells_from}
use Rattle.chunk_store.proofs.loading.put_cells.Goals as goal

pub returns : goal.returns
unfolding cells_from
returns c =
    let empty : Cell = record { 0 = pos 0 } in
    fill_by_all (λ k. cell_at c.args.bytes.now (0 + 4 * k)) c.loop-k.cells _ empty c.loop-k.invariant.long (λ k below. c.loop-k.invariant.put k empty (omega (arith, below, c.loop-k-test.false)))
