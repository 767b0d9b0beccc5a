-- What it means that a constraint holds at a point, and that a point is a solution.
-- Used by `specs/Answer`, and by whatever tests points.
use Rattle.std.specs.Prelude.{ℕ, Bool, false, ◌&&◌, List, [], ◌∷◌, ℤ, pos, ◌*ℤ◌, int_le, int_lt, Option, Some, None, slice_get}
use Rattle.std.specs.Option.{option_map_or}
use Rattle.std.specs.List.{list_all}
use Rattle.lists.specs.Numbers.{count_of, sum_of, least_of, greatest_of}
use Rattle.cells.specs.Array.{Array, is_proper, present_cells}
use Rattle.cells.specs.declared.side.Side.{Side}
use Rattle.query_model.specs.declared.parts.Fraction.{Fraction}
use Rattle.query_model.specs.declared.parts.Compare.{Compare}
use Rattle.query_model.specs.declared.parts.Compare.TheVariants.{Le, Lt, Ge, Gt, Eq}
use Rattle.query_model.specs.declared.parts.Agg.{Agg}
use Rattle.query_model.specs.declared.parts.Agg.TheVariants.{Sum, Min, Max, Count, Avg}
use Rattle.query_model.specs.declared.parts.Constraint.{Constraint}
use Rattle.query_model.specs.declared.parts.Constraint.TheVariants.{Linear, Aggregate}
use Rattle.query_model.specs.declared.query.Query.{Query}
use Rattle.domains.specs.Points.{Point}
use Rattle.query_model.specs.Value.{value_of, region_at}

-- the comparison holds of x and y
abbrev pub compares : Compare → ℤ → ℤ → Bool
compares Le x y = int_le x y
compares Lt x y = int_lt x y
compares Ge x y = int_le y x
compares Gt x y = int_lt y x
compares Eq x y = int_le x y && int_le y x

-- there is an x, and the comparison holds of x and y
abbrev pub compares_where_defined : Compare → Option ℤ → ℤ → Bool
compares_where_defined c None y = false
compares_where_defined c (Some x) y = compares c x y

-- there are numbers, and the comparison holds of their mean and p / q: of their sum times q, and p times their count
abbrev pub mean_compares : Compare → List ℤ → Fraction → Bool
mean_compares c [] to = false
mean_compares c (x ∷ xs) to = compares c (to.q *ℤ sum_of (x ∷ xs)) (to.p *ℤ count_of (x ∷ xs))

-- the comparison holds of the aggregate of these numbers and the fraction, which is a whole number unless the aggregate is `avg`
abbrev pub aggregate_compares : Agg → Compare → List ℤ → Fraction → Bool
aggregate_compares Sum c numbers to = compares c (sum_of numbers) to.p
aggregate_compares Count c numbers to = compares c (count_of numbers) to.p
aggregate_compares Min c numbers to = compares_where_defined c (least_of numbers) to.p
aggregate_compares Max c numbers to = compares_where_defined c (greatest_of numbers) to.p
aggregate_compares Avg c numbers to = mean_compares c numbers to

-- the region is proper, and the comparison holds of the aggregate of its present cells and the number
abbrev pub aggregate_holds : Array → List Side → Agg → Compare → Fraction → Bool
aggregate_holds a sides agg c to = is_proper a.extents sides && aggregate_compares agg c (present_cells a sides) to

-- the constraint holds at the point
abbrev pub holds : Array → Query → Point → Constraint → Bool
holds a q p (Linear e c to) = compares c (value_of e p) to
holds a q p (Aggregate agg r c to) = option_map_or (λ region. aggregate_holds a (region_at region p) agg c to) (slice_get q.regions r) false

-- every constraint holds at the point
abbrev pub is_solution : Array → Query → Point → Bool
is_solution a q p = list_all (holds a q p) q.constraints

-- the same fraction, with both numbers k times as large
abbrev pub scaled : ℕ → Fraction → Fraction
scaled k to = record { p = pos k *ℤ to.p; q = pos k *ℤ to.q }
