-- The part of an expression that was read so far: a constant and terms.
-- `Form`, `Walk` and the contracts of `sum` and `expression` use it.
use Rattle.std.specs.Prelude.{◌≢◌, ℕ, ◌-◌, ◌^◌, ℤ, pos, Bool, ◌==◌, List, [], ◌∷◌, ◌++◌, length, replicate, Option, None, Some, unwrap_or, All, AllPairs, IfSome}
use Rattle.std.specs.List.{list_any}
use Rattle.lists.specs.Numbers.{IsWithin}
use Rattle.query_model.specs.declared.parts.Expr.{Expr}
use Rattle.query_model.specs.declared.parts.Term.{Term}
use Rattle.query_model.specs.Rules.{IsTerm, no_term}

-- its constant, if one was read, and its terms
pub record SumParts : Type 0 where
  pub constant : Option ℤ
  pub terms : List Term

abbrev pub empty_sum : SumParts
empty_sum = record { constant = None; terms = [] }

-- with a constant
abbrev pub with_constant : ℤ → SumParts → SumParts
with_constant z s = record { constant = Some z; terms = s.terms }

-- with one more term
abbrev pub with_term : Term → SumParts → SumParts
with_term t s = record { constant = s.constant; terms = s.terms ++ t ∷ [] }

-- it has a term of this variable
abbrev pub has_term : ℕ → SumParts → Bool
has_term v s = list_any (λ (t : Term). t.var == v) s.terms

-- the expression. If no constant was read, it is 0
abbrev pub expr_of : SumParts → Expr
expr_of s = record { constant = unwrap_or s.constant (pos 0); count = length s.terms; terms = s.terms ++ replicate (8 - length s.terms) no_term }

-- its constant is within the limits, and its terms are of n variables, each at most once
pub record IsSum (n : ℕ) (s : SumParts) : Type 0 where
  pub constant : IfSome s.constant (λ z. IsWithin z (2 ^ 31))
  pub terms : All (IsTerm n) s.terms
  pub once : AllPairs (λ (t u : Term). t.var ≢ u.var) s.terms
