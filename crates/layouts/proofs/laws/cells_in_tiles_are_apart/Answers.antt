use Rattle.grids.proofs.TileIndices.{index_in_tile-below, same_coordinates}
use Rattle.layouts.proofs.laws.cells_in_tiles_are_apart.Goals as goal

pub returns : goal.returns
returns c = record { below = index_in_tile-below; once = same_coordinates }
