use Rattle.std.proofs.Common.{◌≡◌, ◌≤◌, length, vec_capacity}
use Rattle.lists.specs.Numbers.{product}
use Rattle.layouts.specs.Chunks.{chunk_cells}
use Rattle.array_file.specs.Stored.{chunk_start}
use Rattle.chunk_store.specs.Loaded.{HoldsFirstChunks}
use Rattle.chunk_store.specs.Pieces.{AsksPieces}
use Rattle.chunk_store.proofs.array.add_chunks.Given as goal

abbrev pub invariant-loop-n : goal.invariant-loop-n
invariant-loop-n g l =
    let s = g.S.ByteSource in
    record {
      within : l.n ≤ l.n-end;
      cells : HoldsFirstChunks (s.file l.fn.src).bytes l.layout l.n l.cells.items;
      room : product l.layout.extents ≤ vec_capacity l.cells;
      frame : length l.frame.cells ≡ chunk_cells l.layout;
      faults : s.faults l.src ≡ s.faults l.fn.src;
      asked : AsksPieces (s.asked l.fn.src) (s.asked l.src) 96 (chunk_start l.layout l.n);
      file : s.file l.src ≡ s.file l.fn.src;
    }
