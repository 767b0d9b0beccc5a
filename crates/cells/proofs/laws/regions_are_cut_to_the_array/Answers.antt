use Rattle.cells.proofs.Cutting.{cut_contains, cut_within, cut_numbers}
use Rattle.cells.proofs.laws.regions_are_cut_to_the_array.Goals as goal

pub returns : goal.returns
returns c = record { cells = cut_contains; within = cut_within; numbers = cut_numbers }
