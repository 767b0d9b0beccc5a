use Rattle.grids.proofs.Coordinates.{index_of-below, coordinates_of-index_of}
use Rattle.cells.proofs.laws.coordinates_have_indices.Goals as goal

pub returns : goal.returns
returns c = record { below = index_of-below; back = coordinates_of-index_of }
