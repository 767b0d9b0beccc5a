use Rattle.cells.specs.Array.{present_cells}
use Rattle.cells.specs.Cells.{array_of}
use Rattle.lists.specs.Numbers.{product}
use Rattle.cell_fold.proofs.Passes.{IsPass}
use Rattle.cell_fold.proofs.Regions.{start, part}
use Rattle.cell_fold.proofs.region.planes_record.Given as goal

abbrev pub invariant-loop-p : goal.invariant-loop-p
invariant-loop-p l = IsPass (λ p. present_cells (array_of 2 l.plane (part (product l.plane) p l.cells)) l.across) (start l.fn.along) l.p (product l.plane) l.all
