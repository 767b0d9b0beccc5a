-- Expressions whose value fits 64 bits at every point.
-- Used by the values of expressions, whose arithmetic is in 64 bits.
use Rattle.std.specs.Prelude.{ℕ, ◌≤◌, ◌<◌, ◌^◌, unsigned_abs, All, take}
use Rattle.lists.specs.Numbers.{IsWithin}
use Rattle.query_model.specs.declared.parts.Expr.{Expr}
use Rattle.query_model.specs.declared.parts.Term.{Term}
use Rattle.query_model.specs.declared.parts.Region.{Region}

-- its factor is within 2^20, and its variable is one of n
pub record IsBoundedTerm (n : ℕ) (t : Term) : Type 0 where
  pub factor : unsigned_abs t.factor ≤ 2 ^ 20
  pub var : t.var < n

-- its constant is within 2^60, and it has at most 8 terms, each bounded and of one of n variables
pub record IsBounded (n : ℕ) (e : Expr) : Type 0 where
  pub constant : IsWithin e.constant (2 ^ 60)
  pub count : e.count ≤ 8
  pub terms : All (IsBoundedTerm n) (take e.count e.terms)

-- each of its expressions is bounded
pub record IsBoundedRegion (n : ℕ) (r : Region) : Type 0 where
  pub at : All (IsBounded n) r.at
  pub length : All (IsBounded n) r.length
