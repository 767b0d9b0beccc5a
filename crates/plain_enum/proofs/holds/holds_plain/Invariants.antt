use Rattle.std.proofs.Common.{◌≡◌, true, take}
use Rattle.std.specs.List.{list_all}
use Rattle.cells.specs.Cells.{array_of}
use Rattle.query_model.specs.Constraint as constraint
use Rattle.plain_enum.proofs.holds.holds_plain.Given as goal

abbrev pub invariant-loop-c : goal.invariant-loop-c
invariant-loop-c l = list_all (constraint.holds (array_of l.query.rank l.shape.extents l.cells) l.query l.p) (take l.c-index l.c-items) ≡ true
