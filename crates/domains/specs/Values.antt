-- The values of a domain.
-- Used by `Dom`, by boxes, and by the rules that a query of `query_model` keeps.
use Rattle.std.specs.Prelude.{ℕ, suc, zero, Bool, List, [], ◌∷◌, ℤ, pos, negsuc, ◌+ℤ◌, ◌-ℤ◌, ◌≤ℤ◌, int_le}
use Rattle.domains.specs.declared.dom.Dom.{Dom}

-- it has a value
abbrev pub HasValue : Dom → Type 0
HasValue d = d.lo ≤ℤ d.hi

-- the same as a test
abbrev pub has_value : Dom → Bool
has_value d = int_le d.lo d.hi

-- it does not have two values
abbrev pub has_one_value : Dom → Bool
has_one_value d = int_le d.hi d.lo

-- n whole numbers from x on
abbrev pub integers_from : ℤ → ℕ → List ℤ
integers_from x zero = []
integers_from x (suc n) = x ∷ integers_from (x +ℤ pos 1) n

-- the number, and 0 for a negative one
abbrev pub at_least_zero : ℤ → ℕ
at_least_zero (pos n) = n
at_least_zero (negsuc n) = 0

-- how many values a domain has; 0 if it ends before it begins
abbrev pub size_of : Dom → ℕ
size_of d = at_least_zero ((d.hi +ℤ pos 1) -ℤ d.lo)

-- the values of a domain, in order
abbrev pub values_of : Dom → List ℤ
values_of d = integers_from d.lo (size_of d)
