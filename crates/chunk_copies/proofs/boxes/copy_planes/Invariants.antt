use Rattle.std.proofs.Common.{◌∷◌}
use Rattle.chunk_copies.specs.Boxes.{CopiesBox}
use Rattle.chunk_copies.proofs.Copies.{first}
use Rattle.chunk_copies.proofs.boxes.copy_planes.Given as goal

abbrev pub invariant-loop-p : goal.invariant-loop-p
invariant-loop-p l = CopiesBox (first l.p l.planes ∷ l.plane) l.source l.fn.target l.target
