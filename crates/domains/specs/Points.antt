-- Points, their order, and the points of a list of domains.
-- Used throughout, here and in every crate that speaks of solutions.
use Rattle.std.specs.Prelude.{◌≡◌, ◌-◌, Bool, true, false, ◌&&◌, int_le, Contains, List, [], ◌∷◌, ◌++◌, length, replicate, map, flat_map, ℤ, pos, ◌+ℤ◌, ◌≤ℤ◌}
use Rattle.std.specs.Ordering.{int_cmp, nat_cmp, ordering_then}
use Rattle.std.specs.declared.cmp.Ordering.{Ordering}
use Rattle.std.specs.declared.cmp.Ordering.TheVariants.{Less}
use Rattle.std.specs.Cmp.Lexicographic.{slice_cmp}
use Rattle.domains.specs.declared.dom.Dom.{Dom}
use Rattle.domains.specs.Values.{values_of}

-- the value of each variable, in order
abbrev pub Point : Type 0
Point = List ℤ

-- the points of these domains: for each value of the first variable, in order, the points of the other domains with this value before them
abbrev pub points_of : List Dom → List Point
points_of [] = [] ∷ []
points_of (d ∷ ds) = flat_map (λ v. map (λ p. v ∷ p) (points_of ds)) (values_of d)

-- the points of these domains that come after a point, in order: first those with the same first value, then those with a greater one
abbrev pub points_after : List Dom → Point → List Point
points_after [] p = []
points_after (d ∷ ds) [] = []
points_after (d ∷ ds) (x ∷ p) =
    map (λ q. x ∷ q) (points_after ds p) ++ flat_map (λ v. map (λ q. v ∷ q) (points_of ds)) (values_of (record { lo = x +ℤ pos 1; hi = d.hi }))

-- each value of a point is within its domain
abbrev pub IsInBox : List Dom → Point → Type 0
IsInBox [] [] = Unit {0}
IsInBox [] (x ∷ p) = ⊥
IsInBox (d ∷ ds) [] = ⊥
IsInBox (d ∷ ds) (x ∷ p) = (d.lo ≤ℤ x) × (x ≤ℤ d.hi) × IsInBox ds p

-- the same as a test
abbrev pub is_in_box : List Dom → Point → Bool
is_in_box [] [] = true
is_in_box [] (x ∷ p) = false
is_in_box (d ∷ ds) [] = false
is_in_box (d ∷ ds) (x ∷ p) = int_le d.lo x && (int_le x d.hi && is_in_box ds p)

-- the first value in which two points differ is smaller in the first point
abbrev pub ComesBefore : Point → Point → Type 0
ComesBefore p p' = slice_cmp int_cmp p p' ≡ Less

-- the values, and zeros after them, eight in all
abbrev pub with_zeros : Point → List ℤ
with_zeros p = p ++ replicate (8 - length p) (pos 0)

-- how points compare: by their values with zeros after them, the first variable first. If these are equal, the point with fewer variables comes first
abbrev pub point_cmp : Point → Point → Ordering
point_cmp p q = ordering_then (slice_cmp int_cmp (with_zeros p) (with_zeros q)) (nat_cmp (length p) (length q))

-- all of these points come before all of those
abbrev pub AllComeBefore : List Point → List Point → Type 0
AllComeBefore ps qs = (p q : Point) → Contains ps p → Contains qs q → ComesBefore p q
