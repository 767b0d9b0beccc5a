use Rattle.grids.proofs.Tilings.{tile_from-holds}
use Rattle.layouts.proofs.laws.tiles_have_cells.Goals as goal

pub returns : goal.returns
returns c = tile_from-holds
