-- Boxes within each other: an order with its width, and the points of such boxes. Lists of points up to order.
-- Used by the laws on boxes within each other and on points up to order.
use Rattle.std.proofs.Common.{◌≡◌, ◌↔◌, ◌≤◌, true, ◌&&◌, int_le, List, [], ◌∷◌, map, filter, AllPairs, Contains, refl, ap, arith, ℤ, ◌≤ℤ◌}
use Rattle.std.specs.List.{sum_by}
use Rattle.std.proofs.lemmas.Bool.{and_parts, and_from}
use Rattle.std.proofs.lemmas.Cmp.{lists_total, int_cmp_total, tied_itself}
use Rattle.std.proofs.lemmas.Int.{ints}
use Rattle.std.proofs.lemmas.List.Sums.{sum_by-cons}
use Rattle.domains.specs.declared.dom.Dom.{Dom}
use Rattle.domains.specs.Points.{Point, IsInBox, is_in_box, ComesBefore}
use Rattle.domains.specs.Values.{HasValue, size_of}
use Rattle.domains.specs.VarBoxes.{HaveValues, points_in, lowest}
use Rattle.domains.specs.Within.{LieWithin, IsBoxWithin, width_of}
use Rattle.lists.proofs.Members.{IsIn, in_from_contains, contains_from_in, in_filter, in_filter_cases}
use Rattle.lists.specs.Numbers.{HaveSameItems}
use Rattle.lists.proofs.Rising.{Rises, pairs_rises, rises_filter, rises-equal}
use Rattle.lists.proofs.SameItems.{in-same, same-turned}
use Rattle.domains.proofs.Values.{size_is, size_some}
use Rattle.domains.proofs.PointsOfDomains.{in_points, in_points_cases, rises_points}
use Rattle.domains.proofs.PointOrder.{eq-same}
use Rattle.domains.proofs.Halves.{contains_cases, contains_point}
use Rattle.domains.proofs.HalvesOrder.{lowest_in}

-- ---- an order

lie_within_itself : (ds : List Dom) → LieWithin ds ds
lie_within_itself [] = tt
lie_within_itself (d ∷ ds) = (omega (arith, ints), omega (arith, ints), lie_within_itself ds)

pub within_itself : (box : List Dom) → IsBoxWithin box box
within_itself [] = tt
within_itself (d ∷ ds) = lie_within_itself (d ∷ ds)

lie_within_through : (ds es fs : List Dom) → LieWithin ds es → LieWithin es fs → LieWithin ds fs
lie_within_through [] [] fs h i = i
lie_within_through [] (e ∷ es) fs h i = absurd h
lie_within_through (d ∷ ds) [] fs h i = absurd h
lie_within_through (d ∷ ds) (e ∷ es) [] h i = absurd i
lie_within_through (d ∷ ds) (e ∷ es) (f ∷ fs) h i = (omega (arith, ints, h.0, i.0), omega (arith, ints, h.1, i.1), lie_within_through ds es fs h.2 i.2)

pub within_through : (a b c : List Dom) → IsBoxWithin a b → IsBoxWithin b c → IsBoxWithin a c
within_through [] b c h i = tt
within_through (d ∷ ds) [] c h i = absurd h
within_through (d ∷ ds) (e ∷ es) c h i = lie_within_through (d ∷ ds) (e ∷ es) c h i

dom_same : (d e : Dom) → d.lo ≡ e.lo → d.hi ≡ e.hi → d ≡ e
dom_same d e low high = (λ i. record { lo = low i; hi = high i })

lie_within_both : (ds es : List Dom) → LieWithin ds es → LieWithin es ds → ds ≡ es
lie_within_both [] [] h i = refl
lie_within_both [] (e ∷ es) h i = absurd h
lie_within_both (d ∷ ds) [] h i = absurd h
lie_within_both (d ∷ ds) (e ∷ es) h i =
    let first : d ≡ e = dom_same d e (omega (arith, ints, h.0, i.0)) (omega (arith, ints, h.1, i.1)) in
    let rest = lie_within_both ds es h.2 i.2 in (λ k. first k ∷ rest k)

pub within_both : (a b : List Dom) → IsBoxWithin a b → IsBoxWithin b a → a ≡ b
within_both [] [] h i = refl
within_both [] (e ∷ es) h i = absurd i
within_both (d ∷ ds) [] h i = absurd h
within_both (d ∷ ds) (e ∷ es) h i = lie_within_both (d ∷ ds) (e ∷ es) h i

-- ---- widths

size_within : (d e : Dom) → HasValue d → e.lo ≤ℤ d.lo → d.hi ≤ℤ e.hi → size_of d ≤ size_of e
size_within d e some low high =
    let a = size_is d (omega (arith, ints)) in let b = size_is e (omega (arith, ints)) in omega (arith, ints, a, b)

width_within : (ds es : List Dom) → HaveValues ds → LieWithin ds es → sum_by size_of ds ≤ sum_by size_of es
width_within [] es some h = omega arith
width_within (d ∷ ds) [] some h = absurd h
width_within (d ∷ ds) (e ∷ es) some h =
    omega (arith, sum_by-cons size_of d ds, sum_by-cons size_of e es, size_within d e some.0 h.0 h.1, width_within ds es some.1 h.2)

pub narrower : (a b : List Dom) → HaveValues a → IsBoxWithin a b → width_of a ≤ width_of b
narrower [] b some h = omega arith
narrower (d ∷ ds) b some h = width_within (d ∷ ds) b some h

size_same : (d e : Dom) → HasValue d → e.lo ≤ℤ d.lo → d.hi ≤ℤ e.hi → size_of d ≡ size_of e → d ≡ e
size_same d e some low high same =
    let a = size_is d (omega (arith, ints)) in let b = size_is e (omega (arith, ints)) in
    dom_same d e (omega (arith, ints, a, b, same)) (omega (arith, ints, a, b, same))

width_same : (ds es : List Dom) → HaveValues ds → LieWithin ds es → sum_by size_of ds ≡ sum_by size_of es → ds ≡ es
width_same [] [] some h same = refl
width_same [] (e ∷ es) some h same = absurd h
width_same (d ∷ ds) [] some h same = absurd h
width_same (d ∷ ds) (e ∷ es) some h same =
    let left = sum_by-cons size_of d ds in let right = sum_by-cons size_of e es in
    let first = size_within d e some.0 h.0 h.1 in let others = width_within ds es some.1 h.2 in
    let one : d ≡ e = size_same d e some.0 h.0 h.1 (omega (arith, left, right, first, others, same)) in
    let rest : ds ≡ es = width_same ds es some.1 h.2 (omega (arith, left, right, first, others, same)) in
    (λ k. one k ∷ rest k)

pub as_wide : (a b : List Dom) → HaveValues a → HaveValues b → IsBoxWithin a b → (width_of a ≡ width_of b) ↔ (a ≡ b)
as_wide [] [] some others h = ((λ e. refl), (λ e. refl))
as_wide [] (d ∷ ds) some others h =
    ((λ e. absurd (omega (arith, sum_by-cons size_of d ds, size_some d others.0, e))), (λ e. ap width_of e))
as_wide (d ∷ ds) b some others h = ((λ e. width_same (d ∷ ds) b some h e), (λ e. ap width_of e))

-- ---- points

in_box_within : (ds es : List Dom) (p : Point) → LieWithin ds es → IsInBox ds p → IsInBox es p
in_box_within [] [] p h i = i
in_box_within [] (e ∷ es) p h i = absurd h
in_box_within (d ∷ ds) [] p h i = absurd h
in_box_within (d ∷ ds) (e ∷ es) [] h i = absurd i
in_box_within (d ∷ ds) (e ∷ es) (x ∷ p) h i = (omega (arith, ints, h.0, i.0), omega (arith, ints, h.1, i.1), in_box_within ds es p h.2 i.2)

within_points : (a b : List Dom) (p : Point) → IsBoxWithin a b → Contains (points_in a) p → Contains (points_in b) p
within_points [] b p h c = absurd (omega (arith, c.1))
within_points (d ∷ ds) [] p h c = absurd h
within_points (d ∷ ds) (e ∷ es) p h c = contains_point (e ∷ es) p (omega arith) (in_box_within (d ∷ ds) (e ∷ es) p h (contains_cases (d ∷ ds) p c))

-- the greatest value of each variable
abbrev highest : List Dom → Point
highest box = map (λ d. d.hi) box

highest_in : (ds : List Dom) → HaveValues ds → IsInBox ds (highest ds)
highest_in [] h = tt
highest_in (d ∷ ds) h = (h.0, omega (arith, ints), highest_in ds h.1)

lie_within_corners : (ds es : List Dom) → IsInBox es (lowest ds) → IsInBox es (highest ds) → LieWithin ds es
lie_within_corners [] [] low high = tt
lie_within_corners [] (e ∷ es) low high = low
lie_within_corners (d ∷ ds) [] low high = low
lie_within_corners (d ∷ ds) (e ∷ es) low high = (low.0, high.1, lie_within_corners ds es low.2 high.2)

pub within_if_points : (a b : List Dom) → HaveValues a → IsBoxWithin a b ↔ ((p : Point) → Contains (points_in a) p → Contains (points_in b) p)
within_if_points [] b some = ((λ h p c. within_points [] b p h c), (λ h. tt))
within_if_points (d ∷ ds) b some = (
  (λ h p c. within_points (d ∷ ds) b p h c),
  (λ h.
      let low = contains_point (d ∷ ds) (lowest (d ∷ ds)) (omega arith) (lowest_in (d ∷ ds) some) in
      let high = contains_point (d ∷ ds) (highest (d ∷ ds)) (omega arith) (highest_in (d ∷ ds) some) in
      lie_within_corners (d ∷ ds) b (contains_cases b (lowest (d ∷ ds)) (h (lowest (d ∷ ds)) low)) (contains_cases b (highest (d ∷ ds)) (h (highest (d ∷ ds)) high))),
)

-- ---- the points of a box within another, out of those of the other

is_in_box-true : (ds : List Dom) (p : Point) → IsInBox ds p → is_in_box ds p ≡ true
is_in_box-true [] [] h = refl
is_in_box-true [] (x ∷ p) h = absurd h
is_in_box-true (d ∷ ds) [] h = absurd h
is_in_box-true (d ∷ ds) (x ∷ p) h =
    and_from (int_le d.lo x) (int_le x d.hi && is_in_box ds p) (le_true d.lo x h.0)
    (and_from (int_le x d.hi) (is_in_box ds p) (le_true x d.hi h.1) (is_in_box-true ds p h.2))
  where
    le_true : (x y : ℤ) → x ≤ℤ y → int_le x y ≡ true
    le_true x y h = grind (arith, ints)

true-is_in_box : (ds : List Dom) (p : Point) → is_in_box ds p ≡ true → IsInBox ds p
true-is_in_box [] [] h = tt
true-is_in_box [] (x ∷ p) h = absurd (cc)
true-is_in_box (d ∷ ds) [] h = absurd (cc)
true-is_in_box (d ∷ ds) (x ∷ p) h =
    let first = and_parts (int_le d.lo x) (int_le x d.hi && is_in_box ds p) h in
    let second = and_parts (int_le x d.hi) (is_in_box ds p) first.1 in
    (true_le d.lo x first.0, true_le x d.hi second.0, true-is_in_box ds p second.1)
  where
    true_le : (x y : ℤ) → int_le x y ≡ true → x ≤ℤ y
    true_le x y h = grind (arith, ints)

pub tests_in_box : (ds : List Dom) (p : Point) → (is_in_box ds p ≡ true) ↔ IsInBox ds p
tests_in_box ds p = (true-is_in_box ds p, is_in_box-true ds p)

rises_points_in : (box : List Dom) → Rises ComesBefore (points_in box)
rises_points_in [] = tt
rises_points_in (d ∷ ds) = rises_points (d ∷ ds)

not_before_itself : (p : Point) → ComesBefore p p → ⊥
not_before_itself p h = let e = tied_itself (lists_total int_cmp_total) p in cc

before_through : (p q r : Point) → ComesBefore p q → ComesBefore q r → ComesBefore p r
before_through = (lists_total int_cmp_total).trans

no_empty_point : (box : List Dom) → IsIn [] (points_in box) → ⊥
no_empty_point [] i = elim i [ ]
no_empty_point (d ∷ ds) i = in_points_cases (d ∷ ds) [] i

in_both : (a b : List Dom) (p : Point) → IsIn p (points_in b) → IsInBox a p → IsIn p (points_in a)
in_both [] b [] i j = absurd (no_empty_point b i)
in_both [] b (x ∷ p) i j = absurd j
in_both (d ∷ ds) b p i j = in_points (d ∷ ds) p j

pub points_kept : (a b : List Dom) → IsBoxWithin a b → points_in a ≡ filter (is_in_box a) (points_in b)
points_kept a b h =
    rises-equal ComesBefore not_before_itself before_through (points_in a) (filter (is_in_box a) (points_in b))
    (rises_points_in a) (rises_filter ComesBefore (is_in_box a) (points_in b) (rises_points_in b))
    (λ p i.
    let c = contains_from_in (points_in a) p i in
    in_filter (is_in_box a) (points_in b) p (in_from_contains (points_in b) p (within_points a b p h c)) (is_in_box-true a p (contains_cases a p c)))
    (λ p i. let k = in_filter_cases (is_in_box a) (points_in b) p i in in_both a b p k.0 (true-is_in_box a p k.1))

-- ---- points up to order

-- lists of points that rise strictly and have the same points
pub rising_points-equal : (ps qs : List Point) → AllPairs ComesBefore ps → AllPairs ComesBefore qs → HaveSameItems ps qs → ps ≡ qs
rising_points-equal ps qs first second same =
    rises-equal ComesBefore not_before_itself before_through ps qs (pairs_rises ComesBefore ps first) (pairs_rises ComesBefore qs second)
    (in-same _ eq-same ps qs same) (in-same _ eq-same qs ps (same-turned ps qs same))
