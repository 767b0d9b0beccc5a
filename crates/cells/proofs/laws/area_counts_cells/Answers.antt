use Rattle.grids.proofs.Areas.{area-cells}
use Rattle.cells.proofs.laws.area_counts_cells.Goals as goal

pub returns : goal.returns
returns c extents r has = area-cells extents r.from r.to has.0 has.1
