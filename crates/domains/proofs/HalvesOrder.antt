-- Whether all points of one half come before those of the other, and how many points the halves have.
-- Used by the laws `halves_in_order` and `halves_are_smaller`.
use Rattle.std.proofs.Common.{◌≡◌, ◌↔◌, ℕ, zero, suc, ◌+◌, ◌<◌, List, [], ◌∷◌, length, set, take, ap, sym, subst, ◌∙◌, arith, ℤ, ◌≤ℤ◌, ◌<ℤ◌}
use Rattle.std.specs.Ordering.{int_cmp, ordering_then}
use Rattle.std.specs.Cmp.Lexicographic.{slice_cmp}
use Rattle.std.specs.declared.cmp.Ordering.TheVariants.{Greater}
use Rattle.std.proofs.lemmas.Int.{ints, by_lt_z}
use Rattle.std.proofs.lemmas.List.{length-set}
use Rattle.std.proofs.lemmas.List.Sums.{sum_by-append}
use Rattle.std.proofs.lemmas.List.Elements.{All-nil, All-cons, All-head, All-tail}
use Rattle.lists.proofs.Weights.{length-sum_by}
use Rattle.domains.specs.declared.dom.Dom.{Dom}
use Rattle.domains.specs.Values.{HasValue, size_of}
use Rattle.domains.specs.Points.{Point, IsInBox, ComesBefore, AllComeBefore}
use Rattle.domains.specs.VarBoxes.{HaveValues, IsBox, points_in, lowest}
use Rattle.domains.specs.Splits.{domain_at, lower_half, upper_half, widest, first_half, second_half, HaveOneValueBefore}
use Rattle.domains.proofs.Values.{size_is}
use Rattle.domains.proofs.PointsOfDomains.{first_decides, rest_decides, int_cmp-itself}
use Rattle.domains.proofs.PointCounts.{product_some, length-points_of}
use Rattle.domains.proofs.NonemptyDomains.{values_set}
use Rattle.domains.proofs.Widest.{widest_several}
use Rattle.domains.proofs.Halves.{contains_cases, contains_point, halves_share}

-- ---- what comes first

int_cmp-greater : (x y : ℤ) → y <ℤ x → int_cmp x y ≡ Greater
int_cmp-greater x y h = grind (arith, ints)

heads_in_order : (x y : ℤ) (p q : Point) → ComesBefore (x ∷ p) (y ∷ q) → x ≤ℤ y
heads_in_order x y p q h =
    by_lt_z y x
    (λ greater. let e = ap (λ o. ordering_then o (slice_cmp int_cmp p q)) (int_cmp-greater x y greater) in absurd (cc))
    (λ fine. fine)

tails_in_order : (x : ℤ) (p q : Point) → ComesBefore (x ∷ p) (x ∷ q) → ComesBefore p q
tails_in_order x p q h = sym (ap (λ o. ordering_then o (slice_cmp int_cmp p q)) (int_cmp-itself x)) ∙ h

pub lowest_in : (ds : List Dom) → HaveValues ds → IsInBox ds (lowest ds)
lowest_in [] h = tt
lowest_in (d ∷ ds) h = (omega (arith, ints), h.0, lowest_in ds h.1)

-- ---- along one variable

pub in_order : (box : List Dom) (v : ℕ) (low high : Dom) (p q : Point) → HaveValues box → v < length box → low.hi <ℤ high.lo → HaveOneValueBefore box v
    → IsInBox (set box v low) p → IsInBox (set box v high) q → ComesBefore p q
in_order [] v low high p q values h apart one i j = absurd (omega arith)
in_order (d ∷ ds) zero low high [] q values h apart one i j = absurd i
in_order (d ∷ ds) zero low high (x ∷ p) [] values h apart one i j = absurd j
in_order (d ∷ ds) zero low high (x ∷ p) (y ∷ q) values h apart one i j = first_decides x y p q (omega (arith, ints, apart, i.1, j.0))
in_order (d ∷ ds) (suc v) low high [] q values h apart one i j = absurd i
in_order (d ∷ ds) (suc v) low high (x ∷ p) [] values h apart one i j = absurd j
in_order (d ∷ ds) (suc v) low high (x ∷ p) (y ∷ q) values h apart one i j =
    let single : size_of d ≡ 1 = All-head (λ f. size_of f ≡ 1) d (take v ds) one in
    let e = size_is d (omega (arith, ints, values.0)) in
    let same : x ≡ y = omega (arith, ints, single, e, i.0, i.1, j.0, j.1) in
    subst (λ z. ComesBefore (x ∷ p) (z ∷ q)) same
    (rest_decides x p q (in_order ds v low high p q values.1 (omega arith) apart (All-tail (λ f. size_of f ≡ 1) d (take v ds) one) i.2 j.2))

pub one_value_before : (box : List Dom) (v : ℕ) (low high : Dom) → HaveValues box → HasValue low → HasValue high → v < length box
    → ((p q : Point) → IsInBox (set box v low) p → IsInBox (set box v high) q → ComesBefore p q) → HaveOneValueBefore box v
one_value_before [] v low high values l u h before = absurd (omega arith)
one_value_before (d ∷ ds) zero low high values l u h before = All-nil (λ f. size_of f ≡ 1)
one_value_before (d ∷ ds) (suc v) low high values l u h before =
    let some = values.0 in
    let end : d.hi ≤ℤ d.hi = omega (arith, ints) in
    let start : d.lo ≤ℤ d.lo = omega (arith, ints) in
    let a = lowest_in (set ds v low) (values_set ds v low values.1 l) in
    let b = lowest_in (set ds v high) (values_set ds v high values.1 u) in
    let flat = heads_in_order d.hi d.lo (lowest (set ds v low)) (lowest (set ds v high))
    (before (d.hi ∷ lowest (set ds v low)) (d.lo ∷ lowest (set ds v high)) (some, end, a) (start, some, b)) in
    let e = size_is d (omega (arith, ints)) in
    All-cons (λ f. size_of f ≡ 1) d (take v ds) (omega (arith, ints, flat, some, e))
    (one_value_before ds v low high values.1 l u (omega arith) (λ p q i j. tails_in_order d.lo p q (before (d.lo ∷ p) (d.lo ∷ q) (start, some, i) (start, some, j))))

-- ---- in the halves

pub halves_order : (box : List Dom) → HaveValues box → 1 < length (points_in box) → AllComeBefore (points_in (first_half box)) (points_in (second_half box)) ↔ HaveOneValueBefore box (widest box)
halves_order box h more =
    let v = widest box in let d = domain_at box v in
    let several = widest_several box h more in
    let low : HasValue (lower_half d) = omega (arith, ints, several.1) in
    let high : HasValue (upper_half d) = omega (arith, ints, several.1) in
    let some_first : 0 < length (first_half box) = omega (arith, length-set box v (lower_half d), several.0) in
    let some_second : 0 < length (second_half box) = omega (arith, length-set box v (upper_half d), several.0) in (
      (λ before. one_value_before box v (lower_half d) (upper_half d) h low high several.0
          (λ p q i j. before p q (contains_point (first_half box) p some_first i) (contains_point (second_half box) q some_second j))),
      (λ one p q a b. in_order box v (lower_half d) (upper_half d) p q h several.0 (omega (arith, ints)) one (contains_cases (first_half box) p a) (contains_cases (second_half box) q b)),
    )

some_points : (box : List Dom) → HaveValues box → 0 < length box → 0 < length (points_in box)
some_points [] h some = absurd (omega arith)
some_points (d ∷ ds) h some = omega (arith, product_some (d ∷ ds) h, length-points_of (d ∷ ds))

pub halves_boxes : (box : List Dom) → IsBox box → 1 < length (points_in box) → IsBox (first_half box) × IsBox (second_half box)
halves_boxes box h more =
    let v = widest box in let d = domain_at box v in
    let several = widest_several box h.values more in (
      record { few = omega (arith, length-set box v (lower_half d), h.few); values = values_set box v (lower_half d) h.values (omega (arith, ints, several.1)) },
      record { few = omega (arith, length-set box v (upper_half d), h.few); values = values_set box v (upper_half d) h.values (omega (arith, ints, several.1)) },
    )

pub halves_counts : (box : List Dom) → IsBox box → 1 < length (points_in box)
    → (0 < length (points_in (first_half box))) × (0 < length (points_in (second_half box))) × (length (points_in (first_half box)) + length (points_in (second_half box)) ≡ length (points_in box))
halves_counts box h more =
    let v = widest box in let d = domain_at box v in
    let several = widest_several box h.values more in
    let boxes = halves_boxes box h more in
    let shares = (halves_share box h.values more).same (λ _. 1) in (
      some_points (first_half box) boxes.0.values (omega (arith, length-set box v (lower_half d), several.0)),
      some_points (second_half box) boxes.1.values (omega (arith, length-set box v (upper_half d), several.0)),
      omega (arith, shares, sum_by-append (λ (_ : Point). 1) (points_in (first_half box)) (points_in (second_half box)), length-sum_by (points_in box), length-sum_by (points_in (first_half box)), length-sum_by (points_in (second_half box))),
    )
