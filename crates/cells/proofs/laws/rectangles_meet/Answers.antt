use Rattle.cells.proofs.Rectangles.{rect_contains-meet, meet-dimensions}
use Rattle.cells.proofs.laws.rectangles_meet.Goals as goal

pub returns : goal.returns
returns c = record { cells = rect_contains-meet; dimensions = meet-dimensions }
