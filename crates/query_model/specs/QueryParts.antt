-- A query as its parts.
-- Used as the model of `Query`.
use Rattle.std.specs.Prelude.{ℕ, List}
use Rattle.query_model.specs.declared.parts.Variable.{Variable}
use Rattle.query_model.specs.declared.parts.Region.{Region}
use Rattle.query_model.specs.declared.parts.Constraint.{Constraint}

-- the rank of the arrays for which it is, and its variables, regions and constraints
pub record QueryParts : Type 0 where
  pub rank : ℕ
  pub variables : List Variable
  pub regions : List Region
  pub constraints : List Constraint
