use Rattle.std.specs.Prelude.{◌==◌, filter}
use Rattle.std.specs.List.{range_with_len}
use Rattle.grids.specs.Tiles.{tile_count, tile_of, tile_from}
use Rattle.layouts.specs.Meeting.{tile_numbers}
use Rattle.layouts.proofs.Meeting.{parts_same, record_of_parts}
use Rattle.layouts.proofs.laws.tile_records_merge.Goals as goal

pub returns : goal.returns
returns c = λ a shorter longer u short_tiling long_tiling multiples long among.
    record_of_parts c.record_of_parts_is_merged.ensures c.record_of_by_weighings.ensures (tile_numbers a longer u) (tile_numbers a shorter)
    (filter (λ t. tile_of a.extents longer (tile_from a.extents shorter t) == u) (range_with_len 0 (tile_count a.extents shorter)))
    (parts_same c.rectangles_are_regions.ensures a shorter longer u short_tiling long_tiling multiples long among)
