use Rattle.std.proofs.Common.{[], ◌∷◌}
use Rattle.cells.specs.Array.{present_cells}
use Rattle.cells.specs.Cells.{array_of}
use Rattle.cell_fold.proofs.Passes.{IsPass}
use Rattle.cell_fold.proofs.Regions.{start, part}
use Rattle.cell_fold.proofs.region.rows_record.Given as goal

abbrev pub invariant-loop-r : goal.invariant-loop-r
invariant-loop-r l = IsPass (λ r. present_cells (array_of 1 (l.columns ∷ []) (part l.columns r l.cells)) (l.across ∷ [])) (start l.fn.along) l.r l.columns l.all
