-- What a word of a query names: a variable, a region, an aggregate or a comparison.
-- `Form`, `Walk` and the contracts of `lookup` use it.
use Rattle.std.specs.Prelude.{ℕ, List, Option, Some, None, if◌then◌else◌, codes}
use Rattle.std.specs.List.{position}
use Rattle.std.specs.Str.{bytes_eq}
use Rattle.query_model.specs.Text.{name_bytes}
use Rattle.query_model.specs.declared.parts.Agg.{Agg}
use Rattle.query_model.specs.declared.parts.Agg.TheVariants.{Sum, Min, Max, Count, Avg}
use Rattle.query_model.specs.declared.parts.Compare.{Compare}
use Rattle.query_model.specs.declared.parts.Compare.TheVariants.{Le, Lt, Ge, Gt, Eq}
use Rattle.query_model.specs.declared.parts.Region.{Region}
use Rattle.query_model.specs.declared.parts.Variable.{Variable}

-- the index, from 0, of the variable with this name
abbrev pub variable_named : List ℕ → List Variable → Option ℕ
variable_named text variables = position (λ (v : Variable). bytes_eq (name_bytes v.name) text) variables

-- the index, from 0, of the region with this name
abbrev pub region_named : List ℕ → List Region → Option ℕ
region_named text regions = position (λ (r : Region). bytes_eq (name_bytes r.name) text) regions

-- the aggregate with this name
abbrev pub agg_named : List ℕ → Option Agg
agg_named text =
    if bytes_eq text (codes "sum") then Some Sum
    else if bytes_eq text (codes "min") then Some Min
    else if bytes_eq text (codes "max") then Some Max
    else if bytes_eq text (codes "count") then Some Count
    else if bytes_eq text (codes "avg") then Some Avg
    else None

-- the comparison with this name
abbrev pub compare_named : List ℕ → Option Compare
compare_named text =
    if bytes_eq text (codes "le") then Some Le
    else if bytes_eq text (codes "lt") then Some Lt
    else if bytes_eq text (codes "ge") then Some Ge
    else if bytes_eq text (codes "gt") then Some Gt
    else if bytes_eq text (codes "eq") then Some Eq
    else None
