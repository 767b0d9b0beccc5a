-- The answer of a query on an array: its solutions, in order.
-- Used by every search, by the text of an answer, and by the laws on the parts of a box.
use Rattle.std.specs.Prelude.{List, map, filter}
use Rattle.cells.specs.Array.{Array}
use Rattle.domains.specs.declared.dom.Dom.{Dom}
use Rattle.domains.specs.Points.{Point, points_of}
use Rattle.domains.specs.VarBoxes.{points_in}
use Rattle.query_model.specs.declared.query.Query.{Query}
use Rattle.query_model.specs.declared.parts.Variable.{Variable}
use Rattle.query_model.specs.Constraint.{is_solution}

-- the solutions in a box, in order; the empty box has none
abbrev pub solutions_in : Array → Query → List Dom → List Point
solutions_in a q box = filter (is_solution a q) (points_in box)

-- the range of a variable
abbrev pub domain_of : Variable → Dom
domain_of v = record { lo = v.from; hi = v.to }

-- the box of a query: the ranges of its variables
abbrev pub box_of : Query → List Dom
box_of q = map domain_of q.variables

-- all solutions of a query, in order: the points of the variables' ranges at which each constraint holds
abbrev pub answer : Array → Query → List Point
answer a q = filter (is_solution a q) (points_of (box_of q))
