use Rattle.std.proofs.Common.{rules, ◌∙◌, get_or}
use Rattle.grids.proofs.ThreeDimensions.{grid_of-three, pieces_of-ceil}
use Rattle.layouts.proofs.tiles.grid_of.Goals as goal

pub returns : goal.returns
returns c =
    let ns = c.args.extents.now in
    let ms = c.args.lengths.now in
    grid_of-three ns ms c.div_ceil.result c.div_ceil-2.result c.div_ceil-3.result (search rules) (search rules)
    (c.div_ceil.ensures ∙ pieces_of-ceil (get_or ns 0 0) (get_or ms 0 0) (search rules))
    (c.div_ceil-2.ensures ∙ pieces_of-ceil (get_or ns 1 0) (get_or ms 1 0) (search rules))
    (c.div_ceil-3.ensures ∙ pieces_of-ceil (get_or ns 2 0) (get_or ms 2 0) (search rules))
