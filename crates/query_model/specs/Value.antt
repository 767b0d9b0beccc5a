-- What expressions and regions are at a point.
-- Used by `specs/Constraint` and by the values of expressions.
use Rattle.std.specs.Prelude.{List, take, map, zip, ℤ, pos, ◌+ℤ◌, ◌*ℤ◌, slice_index_or}
use Rattle.lists.specs.Numbers.{sum_of}
use Rattle.cells.specs.declared.side.Side.{Side}
use Rattle.domains.specs.Points.{Point}
use Rattle.query_model.specs.declared.parts.Expr.{Expr}
use Rattle.query_model.specs.declared.parts.Term.{Term}
use Rattle.query_model.specs.declared.parts.Region.{Region}

-- the factor times the value of its variable
abbrev pub term_value : Point → Term → ℤ
term_value p t = t.factor *ℤ slice_index_or p t.var (pos 0)

-- the constant plus the terms that count
abbrev pub value_of : Expr → Point → ℤ
value_of e p = e.constant +ℤ sum_of (map (term_value p) (take e.count e.terms))

-- the indices from `at` up to but not including `at + length`
abbrev pub side_at : Expr → Expr → Point → Side
side_at at length p = record { from = value_of at p; to = value_of at p +ℤ value_of length p }

-- a region at a point: its side in each dimension
abbrev pub region_at : Region → Point → List Side
region_at r p = map (λ (at, length). side_at at length p) (zip r.at r.length)
