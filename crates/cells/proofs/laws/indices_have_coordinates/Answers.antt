use Rattle.grids.proofs.Coordinates.{in_bounds-coordinates_of, index_of-coordinates_of}
use Rattle.cells.proofs.laws.indices_have_coordinates.Goals as goal

pub returns : goal.returns
returns c = record { in_bounds = in_bounds-coordinates_of; back = index_of-coordinates_of }
