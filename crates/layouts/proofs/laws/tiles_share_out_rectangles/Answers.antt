use Rattle.cells.specs.Rects.{sides_of}
use Rattle.cells.specs.Array.{present_cells}
use Rattle.layouts.specs.Meeting.{meeting_tiles, shared_numbers}
use Rattle.layouts.proofs.Meeting.{shared_meeting, record_of_parts}
use Rattle.layouts.proofs.laws.tiles_share_out_rectangles.Goals as goal

pub returns-clause-numbers : goal.returns-clause-numbers
returns-clause-numbers c = shared_meeting c.rectangles_are_regions.ensures c.rectangles_meet.ensures.cells c.rectangles_meet.ensures.dimensions

pub returns-clause-record : goal.returns-clause-record
returns-clause-record c = λ a lengths r tiling long one cut.
    record_of_parts c.record_of_parts_is_merged.ensures c.record_of_by_weighings.ensures (present_cells a (sides_of r)) (shared_numbers a lengths r) (meeting_tiles a.extents lengths r)
    (shared_meeting c.rectangles_are_regions.ensures c.rectangles_meet.ensures.cells c.rectangles_meet.ensures.dimensions a lengths r tiling long one cut)
