use Rattle.grids.proofs.Tilings.{tile_of-below, tile_of-holds}
use Rattle.layouts.proofs.laws.tiles_cover.Goals as goal

pub returns : goal.returns
returns c = record { tile = tile_of-below; holds = tile_of-holds }
