use Rattle.grids.proofs.Nesting.{tile_of-tile_from, tile_rect-inside, tile_rect-inside_one}
use Rattle.layouts.proofs.laws.tiles_nest.Goals as goal

pub returns : goal.returns
returns c = record { tile = tile_of-tile_from; inside = tile_rect-inside; alone = tile_rect-inside_one }
