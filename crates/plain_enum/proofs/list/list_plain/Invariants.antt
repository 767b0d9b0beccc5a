use Rattle.std.proofs.Common.{◌≡◌, ◌++◌, All, length}
use Rattle.std.specs.List.{filter}
use Rattle.cells.specs.Cells.{array_of}
use Rattle.query_model.specs.Constraint.{is_solution}
use Rattle.query_model.specs.Answer.{answer}
use Rattle.plain_enum.proofs.list.list_plain.Given as goal

abbrev pub invariant-loop-p : goal.invariant-loop-p
invariant-loop-p l =
    let a = array_of l.query.rank l.shape.extents l.cells in
    goal.iterator-loop-p.can_next l.p-iterator
    × goal.iterator-loop-p.is_finite l.p-iterator
    × (l.points.items ++ filter (is_solution a l.query) l.p-iterator ≡ answer a l.query)
    × All (λ p. length p ≡ length l.query.variables) l.p-iterator
