use Rattle.grids.proofs.Tilings.{tile_rect-within, tile_of-tile_rect}
use Rattle.layouts.proofs.laws.tiles_share_nothing.Goals as goal

pub returns : goal.returns
returns c = record { cut = tile_rect-within; alone = tile_of-tile_rect }
