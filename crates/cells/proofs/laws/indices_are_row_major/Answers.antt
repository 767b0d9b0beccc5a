use Rattle.grids.proofs.Coordinates.{index_of-order}
use Rattle.cells.proofs.laws.indices_are_row_major.Goals as goal

pub returns : goal.returns
returns c = index_of-order
