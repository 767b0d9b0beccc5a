-- The halves of a box, and the measure that is smaller for both.
-- Used by `widest`, `cut` and `split`, and by the laws on halves.
use Rattle.std.specs.Prelude.{◌≡◌, ◌↔◌, ◌⊎◌, ◌++◌, All, take, Contains, ℕ, zero, suc, ◌+◌, ◌/◌, ◌==◌, max, List, [], ◌∷◌, ℤ, pos, ◌+ℤ◌, ◌-ℤ◌, unsigned_abs, slice_index_or, slice_set, if◌then◌else◌}
use Rattle.lists.specs.Numbers.{HaveSameItems}
use Rattle.domains.specs.declared.dom.Dom.{Dom}
use Rattle.domains.specs.Values.{size_of}
use Rattle.domains.specs.Points.{Point}
use Rattle.domains.specs.VarBoxes.{points_in}

-- the most values that one of the domains has
abbrev pub most_values : List Dom → ℕ
most_values [] = 0
most_values (d ∷ ds) = max (size_of d) (most_values ds)

-- the number of the first domain that has n values, from 0
abbrev pub first_with : ℕ → List Dom → ℕ
first_with n [] = 0
first_with n (d ∷ ds) = if size_of d == n then 0 else suc (first_with n ds)

-- the first variable whose domain has the most values
abbrev pub widest : List Dom → ℕ
widest box = first_with (most_values box) box

-- the last value of the first half: the lower end plus half the distance to the upper end, rounded down
abbrev pub middle_of : Dom → ℤ
middle_of d = d.lo +ℤ pos (unsigned_abs (d.hi -ℤ d.lo) / 2)

-- the values of a domain up to its middle
abbrev pub lower_half : Dom → Dom
lower_half d = record { lo = d.lo; hi = middle_of d }

-- the values of a domain above its middle
abbrev pub upper_half : Dom → Dom
upper_half d = record { lo = middle_of d +ℤ pos 1; hi = d.hi }

-- the domain in place of one that does not exist
abbrev pub no_domain : Dom
no_domain = record { lo = pos 0; hi = pos 0 }

-- the domain of a variable
abbrev pub domain_at : List Dom → ℕ → Dom
domain_at box v = slice_index_or box v no_domain

-- the first half of a box: the values of its widest domain up to the middle
abbrev pub first_half : List Dom → List Dom
first_half box = slice_set box (widest box) (lower_half (domain_at box (widest box)))

-- the second half of a box: the values of its widest domain above the middle
abbrev pub second_half : List Dom → List Dom
second_half box = slice_set box (widest box) (upper_half (domain_at box (widest box)))

-- how often n can be halved, rounding down, until it is 0; `fuel` is at least n
abbrev pub halvings_to : (fuel n : ℕ) → ℕ
halvings_to zero n = 0
halvings_to (suc fuel) zero = 0
halvings_to (suc fuel) (suc n) = suc (halvings_to fuel (suc n / 2))

-- the least k with n at most 2^k
unfoldable pub bits_for : ℕ → ℕ
bits_for zero = 0
bits_for (suc n) = halvings_to n n

-- what is left to split of a box: the sum over its variables of the least k with at most 2^k values
abbrev pub measure_of : List Dom → ℕ
measure_of [] = 0
measure_of (d ∷ ds) = bits_for (size_of d) + measure_of ds

-- each point of the box is in exactly one of the two others, and they have no other points
pub record SharesOut (box first second : List Dom) : Type 0 where
  pub same : HaveSameItems (points_in box) (points_in first ++ points_in second)
  pub each : (p : Point) → Contains (points_in box) p ↔ (Contains (points_in first) p ⊎ Contains (points_in second) p)
  pub one : (p : Point) → Contains (points_in first) p → Contains (points_in second) p → ⊥

-- each variable before this one has one value
abbrev pub HaveOneValueBefore : List Dom → ℕ → Type 0
HaveOneValueBefore box v = All (λ d. size_of d ≡ 1) (take v box)
