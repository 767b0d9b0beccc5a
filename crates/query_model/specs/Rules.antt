-- The rules that a query keeps.
-- Used as the invariant of `Query`, and by the reader of query files.
use Rattle.std.specs.Prelude.{◌≡◌, ◌≢◌, ℕ, ◌-◌, ◌^◌, ◌<◌, ◌≤◌, ℤ, pos, ◌≤ℤ◌, length, map, take, drop, replicate, unsigned_abs, All, AllPairs}
use Rattle.domains.specs.Values.{size_of}
use Rattle.lists.specs.Numbers.{IsWithin, product}
use Rattle.query_model.specs.declared.parts.Agg.{Agg}
use Rattle.query_model.specs.declared.parts.Agg.TheVariants.{Sum, Min, Max, Count, Avg}
use Rattle.query_model.specs.declared.parts.Constraint.{Constraint}
use Rattle.query_model.specs.declared.parts.Constraint.TheVariants.{Linear, Aggregate}
use Rattle.query_model.specs.declared.parts.Expr.{Expr}
use Rattle.query_model.specs.declared.parts.Fraction.{Fraction}
use Rattle.query_model.specs.declared.parts.Region.{Region}
use Rattle.query_model.specs.declared.parts.Term.{Term}
use Rattle.query_model.specs.declared.parts.Variable.{Variable}
use Rattle.query_model.specs.NameForm.{IsName}
use Rattle.query_model.specs.QueryParts.{QueryParts}

-- ---- expressions

-- its factor is within 1024, and its variable is one of n
pub record IsTerm (n : ℕ) (t : Term) : Type 0 where
  pub factor : unsigned_abs t.factor ≤ 1024
  pub var : t.var < n

-- the term in place of one that does not count
abbrev pub no_term : Term
no_term = record { factor = pos 0; var = 0 }

-- its constant is within 2^31. Of its 8 terms, those that count are of n variables, each at most once, and the others are zero
pub record IsExpr (n : ℕ) (e : Expr) : Type 0 where
  pub constant : IsWithin e.constant (2 ^ 31)
  pub count : e.count ≤ 8
  pub terms : All (IsTerm n) (take e.count e.terms)
  pub once : AllPairs (λ (t u : Term). t.var ≢ u.var) (take e.count e.terms)
  pub unused : drop e.count e.terms ≡ replicate (8 - e.count) no_term

-- a whole number alone
abbrev pub constant_expr : ℤ → Expr
constant_expr z = record { constant = z; count = 0; terms = replicate 8 no_term }

-- ---- the parts of a query

-- its name has the form of names, and its ends are within 2^20
pub record IsVariable (v : Variable) : Type 0 where
  pub name : IsName v.name
  pub from : IsWithin v.from (2 ^ 20)
  pub to : IsWithin v.to (2 ^ 20)

-- its name has the form of names, and its expressions are of n variables. A dimension that is not used begins at 0 and has length 1
pub record IsRegion (rank n : ℕ) (r : Region) : Type 0 where
  pub name : IsName r.name
  pub at : All (IsExpr n) r.at
  pub length : All (IsExpr n) r.length
  pub unused_at : drop rank r.at ≡ replicate (3 - rank) (constant_expr (pos 0))
  pub unused_length : drop rank r.length ≡ replicate (3 - rank) (constant_expr (pos 1))

-- the number of an average is p / q with q up to 2^20. The number of any other aggregate is whole. p is within 2^52
pub record IsFraction (whole : Type 0) (to : Fraction) : Type 0 where
  pub p : IsWithin to.p (2 ^ 52)
  pub some : pos 1 ≤ℤ to.q
  pub few : to.q ≤ℤ pos (2 ^ 20)
  pub whole_number : whole → to.q ≡ pos 1

-- the aggregate is of whole numbers: all are, except the average
abbrev pub IsWhole : Agg → Type 0
IsWhole Sum = Unit {0}
IsWhole Min = Unit {0}
IsWhole Max = Unit {0}
IsWhole Count = Unit {0}
IsWhole Avg = ⊥

-- its expression is of n variables, or its region is one of m, and its number is within the limits
abbrev pub IsConstraint : ℕ → ℕ → Constraint → Type 0
IsConstraint n m (Linear e c to) = IsExpr n e × IsWithin to (2 ^ 31)
IsConstraint n m (Aggregate agg r c to) = (r < m) × IsFraction (IsWhole agg) to

-- ---- the whole

pub record IsQuery (q : QueryParts) : Type 0 where
  pub rank : (1 ≤ q.rank) × (q.rank ≤ 3)
  pub some_variables : 1 ≤ length q.variables
  pub few_variables : length q.variables ≤ 8
  pub variables : All IsVariable q.variables
  pub names : AllPairs (λ (v w : Variable). v.name ≢ w.name) q.variables
  pub few_points : product (map (λ (v : Variable). size_of (record { lo = v.from; hi = v.to })) q.variables) ≤ 2 ^ 62
  pub few_regions : length q.regions ≤ 16
  pub regions : All (IsRegion q.rank (length q.variables)) q.regions
  pub region_names : AllPairs (λ (r s : Region). r.name ≢ s.name) q.regions
  pub few_constraints : length q.constraints ≤ 64
  pub constraints : All (IsConstraint (length q.variables) (length q.regions)) q.constraints
