-- The lists of variables and of regions that a query may have.
-- The contracts of `variable`, `region` and `read` use it.
use Rattle.std.specs.Prelude.{◌≢◌, ℕ, ◌≤◌, List, length, All, AllPairs}
use Rattle.query_model.specs.Rules.{IsVariable, IsRegion}
use Rattle.query_model.specs.declared.parts.Region.{Region}
use Rattle.query_model.specs.declared.parts.Variable.{Variable}

-- 1 to 8 variables within their limits, of different names
pub record AreVariables (vs : List Variable) : Type 0 where
  pub some : 1 ≤ length vs
  pub few : length vs ≤ 8
  pub rules : All IsVariable vs
  pub names : AllPairs (λ (v w : Variable). v.name ≢ w.name) vs

-- at most 16 regions within their limits, of different names, for arrays of a rank and over n variables
pub record AreRegions (rank n : ℕ) (rs : List Region) : Type 0 where
  pub few : length rs ≤ 16
  pub rules : All (IsRegion rank n) rs
  pub names : AllPairs (λ (r s : Region). r.name ≢ s.name) rs
