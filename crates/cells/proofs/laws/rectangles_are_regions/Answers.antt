use Rattle.cells.proofs.Cutting.{rect_sides}
use Rattle.cells.proofs.laws.rectangles_are_regions.Goals as goal

pub returns : goal.returns
returns c = rect_sides
