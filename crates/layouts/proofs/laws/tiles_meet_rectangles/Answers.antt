use Rattle.layouts.proofs.Meeting.{meets_rect}
use Rattle.layouts.proofs.laws.tiles_meet_rectangles.Goals as goal

pub returns : goal.returns
returns c = meets_rect
