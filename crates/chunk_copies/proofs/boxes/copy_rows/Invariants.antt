use Rattle.std.proofs.Common.{[], ◌∷◌}
use Rattle.chunk_copies.specs.Boxes.{CopiesBox}
use Rattle.chunk_copies.proofs.Copies.{first}
use Rattle.chunk_copies.proofs.boxes.copy_rows.Given as goal

abbrev pub invariant-loop-r : goal.invariant-loop-r
invariant-loop-r l = CopiesBox (first l.r l.rows ∷ l.columns ∷ []) l.source l.fn.target l.target
