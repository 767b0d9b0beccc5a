use Rattle.std.proofs.Common.{rules, ◌∙◌}
use Rattle.grids.specs.Coordinates.{in_bounds}
use Rattle.grids.specs.Tiles.{IsTiling}
use Rattle.grids.proofs.ThreeDimensions.{quotients-three, tiling-from}
use Rattle.grids.proofs.Tilings.{quotients-in_bounds}
use Rattle.layouts.proofs.tiles.tile_of.Goals as goal

pub index_of-requires-clause-in_bounds : goal.index_of-requires-clause-in_bounds
index_of-requires-clause-in_bounds c =
    let ns = c.args.extents.now in
    let ms = c.args.lengths.now in
    let tiling : IsTiling ns ms = tiling-from ns ms (search rules) c.requires.lengths in
    (λ i. in_bounds (c.grid_of-extents.ensures i) (quotients-three c.args.at ms (search rules) (search rules) i)) ∙ quotients-in_bounds ns ms c.args.at tiling c.requires.in_bounds
