use Rattle.std.proofs.Common.{◌≡◌, ℕ, ◌+◌, ◌*◌, ◌<◌, get_or, length}
use Rattle.cells.specs.declared.cell.Cell.{Cell}
use Rattle.array_file.specs.Stored.{cell_at}
use Rattle.chunk_store.proofs.loading.put_cells.Given as goal

abbrev pub invariant-loop-k : goal.invariant-loop-k
invariant-loop-k l =
    record {
      long : length l.cells ≡ length l.fn.cells;
      put : (j : ℕ) (d : Cell) → j < l.k → get_or l.cells j d ≡ cell_at l.bytes (0 + 4 * j);
    }
