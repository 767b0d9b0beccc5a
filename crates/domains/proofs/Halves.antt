-- The halves of a box share out its points, and what points a box has.
-- Used by the laws `halves_share_out`, `points_are_in_box` and `points_rise`, and by HalvesOrder and StripPoints.
use Rattle.std.proofs.Common.{◌≡◌, ◌↔◌, ◌⊎◌, ℕ, zero, suc, ◌+◌, ◌<◌, inl, inr, Contains, AllPairs, List, [], ◌∷◌, ◌++◌, length, set, flat_map, sum_by, refl, ap, ap₂, sym, ◌∙◌, arith, ℤ, ◌≤ℤ◌, ◌<ℤ◌}
use Rattle.std.proofs.lemmas.Int.{ints, by_lt_z}
use Rattle.std.proofs.lemmas.List.{length-set}
use Rattle.std.proofs.lemmas.List.Sums.{sum_by-append}
use Rattle.std.proofs.lemmas.Grind.{flat_map-append}
use Rattle.domains.specs.declared.dom.Dom.{Dom}
use Rattle.domains.specs.Values.{values_of}
use Rattle.domains.specs.Points.{Point, points_of, IsInBox, ComesBefore}
use Rattle.domains.specs.VarBoxes.{HaveValues, points_in}
use Rattle.domains.specs.Splits.{domain_at, middle_of, lower_half, upper_half, widest, first_half, second_half, SharesOut}
use Rattle.lists.proofs.Members.{in_from_contains, contains_from_in}
use Rattle.lists.proofs.Rising.{rises_pairs}
use Rattle.lists.proofs.Weights.{sum_by-map, sum_by-flat_map, sum_by-same, sum_by-add}
use Rattle.domains.proofs.Values.{values_cut}
use Rattle.domains.proofs.PointsOfDomains.{row_of, in_points, in_points_cases, rises_points}
use Rattle.domains.proofs.Widest.{widest_several}

pub values_halves : (d : Dom) → d.lo <ℤ d.hi → values_of d ≡ values_of (lower_half d) ++ values_of (upper_half d)
values_halves d h = values_cut d (middle_of d) (omega (arith, ints)) (omega (arith, ints))

-- ---- weights

weight_rows : (w : Point → ℕ) (points : List Point) (vs : List ℤ) → sum_by w (flat_map (row_of points) vs) ≡ sum_by (λ v. sum_by (λ p. w (v ∷ p)) points) vs
weight_rows w points vs = sum_by-flat_map w (row_of points) vs ∙ sum_by-same _ _ (λ v. sum_by-map w (λ (p : Point). v ∷ p) points) vs

pub weights_share : (w : Point → ℕ) (box : List Dom) (v : ℕ) (low high : Dom) → v < length box → values_of (domain_at box v) ≡ values_of low ++ values_of high
    → sum_by w (points_of box) ≡ sum_by w (points_of (set box v low)) + sum_by w (points_of (set box v high))
weights_share w [] v low high h e = absurd (omega arith)
weights_share w (d ∷ ds) zero low high h e =
    ap (λ vs. sum_by w (flat_map (row_of (points_of ds)) vs)) e
    ∙ ap (sum_by w) (flat_map-append (row_of (points_of ds)) (values_of low) (values_of high))
    ∙ sum_by-append w (flat_map (row_of (points_of ds)) (values_of low)) (flat_map (row_of (points_of ds)) (values_of high))
weights_share w (d ∷ ds) (suc v) low high h e =
    let below = λ (x : ℤ) (p : Point). w (x ∷ p) in
    weight_rows w (points_of ds) (values_of d)
    ∙ sum_by-same (λ x. sum_by (below x) (points_of ds)) (λ x. sum_by (below x) (points_of (set ds v low)) + sum_by (below x) (points_of (set ds v high)))
    (λ x. weights_share (below x) ds v low high (omega arith) e) (values_of d)
    ∙ sum_by-add (λ x. sum_by (below x) (points_of (set ds v low))) (λ x. sum_by (below x) (points_of (set ds v high))) (values_of d)
    ∙ sym (ap₂ ◌+◌ (weight_rows w (points_of (set ds v low)) (values_of d)) (weight_rows w (points_of (set ds v high)) (values_of d)))

-- ---- single points

in_one_half : (box : List Dom) (v : ℕ) (p : Point) → v < length box → IsInBox box p
    → IsInBox (set box v (lower_half (domain_at box v))) p ⊎ IsInBox (set box v (upper_half (domain_at box v))) p
in_one_half [] v p h i = absurd (omega arith)
in_one_half (d ∷ ds) v [] h i = absurd i
in_one_half (d ∷ ds) zero (x ∷ p) h i =
    by_lt_z (middle_of d) x (λ above. inr (omega (arith, ints, above), i.1, i.2)) (λ below. inl (i.0, below, i.2))
in_one_half (d ∷ ds) (suc v) (x ∷ p) h i = elim (in_one_half ds v p (omega arith) i.2) [ inl a ↦ inl (i.0, i.1, a) | inr b ↦ inr (i.0, i.1, b) ]

in_box : (box : List Dom) (v : ℕ) (half : Dom) (p : Point) → (domain_at box v).lo ≤ℤ half.lo → half.hi ≤ℤ (domain_at box v).hi → v < length box → IsInBox (set box v half) p → IsInBox box p
in_box [] v half p low high h i = absurd (omega arith)
in_box (d ∷ ds) zero half [] low high h i = i
in_box (d ∷ ds) zero half (x ∷ p) low high h i = (omega (arith, ints, i.0), omega (arith, ints, i.1), i.2)
in_box (d ∷ ds) (suc v) half [] low high h i = i
in_box (d ∷ ds) (suc v) half (x ∷ p) low high h i = (i.0, i.1, in_box ds v half p low high (omega arith) i.2)

in_not_both : (box : List Dom) (v : ℕ) (low high : Dom) (p : Point) → low.hi <ℤ high.lo → v < length box → IsInBox (set box v low) p → IsInBox (set box v high) p → ⊥
in_not_both [] v low high p apart h i j = omega arith
in_not_both (d ∷ ds) zero low high [] apart h i j = i
in_not_both (d ∷ ds) zero low high (x ∷ p) apart h i j = omega (arith, ints, apart, i.1, j.0)
in_not_both (d ∷ ds) (suc v) low high [] apart h i j = i
in_not_both (d ∷ ds) (suc v) low high (x ∷ p) apart h i j = in_not_both ds v low high p apart (omega arith) i.2 j.2

-- ---- points of boxes that are not empty

pub contains_cases : (box : List Dom) (p : Point) → Contains (points_in box) p → IsInBox box p
contains_cases [] p h = absurd (omega (arith, h.1))
contains_cases (d ∷ ds) p h = in_points_cases (d ∷ ds) p (in_from_contains (points_of (d ∷ ds)) p h)

pub contains_point : (box : List Dom) (p : Point) → 0 < length box → IsInBox box p → Contains (points_in box) p
contains_point [] p some h = absurd (omega arith)
contains_point (d ∷ ds) p some h = contains_from_in (points_of (d ∷ ds)) p (in_points (d ∷ ds) p h)

pub contains_in_points : (ds : List Dom) (p : Point) → Contains (points_of ds) p ↔ IsInBox ds p
contains_in_points ds p =
    ((λ c. in_points_cases ds p (in_from_contains (points_of ds) p c)), (λ i. contains_from_in (points_of ds) p (in_points ds p i)))

pub contains_in_box : (box : List Dom) (p : Point) → Contains (points_in box) p ↔ (IsInBox box p × (0 < length box))
contains_in_box [] p = ((λ c. absurd (omega (arith, c.1))), (λ i. absurd (omega (arith, i.1))))
contains_in_box (d ∷ ds) p = ((λ c. (contains_cases (d ∷ ds) p c, omega arith)), (λ i. contains_point (d ∷ ds) p i.1 i.0))

pub pairs_rise : (ds : List Dom) → AllPairs ComesBefore (points_of ds)
pairs_rise ds = rises_pairs ComesBefore (points_of ds) (rises_points ds)

pub pairs_rise_in : (box : List Dom) → AllPairs ComesBefore (points_in box)
pairs_rise_in [] = rises_pairs ComesBefore [] tt
pairs_rise_in (d ∷ ds) = pairs_rise (d ∷ ds)

points_in_some : (box : List Dom) → 0 < length box → points_in box ≡ points_of box
points_in_some [] h = absurd (omega arith)
points_in_some (d ∷ ds) h = refl

pub halves_share : (box : List Dom) → HaveValues box → 1 < length (points_in box) → SharesOut box (first_half box) (second_half box)
halves_share box h more =
    let v = widest box in let d = domain_at box v in
    let several = widest_several box h more in
    let some : 0 < length box = omega (arith, several.0) in
    let some_first : 0 < length (first_half box) = omega (arith, length-set box v (lower_half d), some) in
    let some_second : 0 < length (second_half box) = omega (arith, length-set box v (upper_half d), some) in
    record {
      same = (λ w. ap (sum_by w) (points_in_some box some) ∙ weights_share w box v (lower_half d) (upper_half d) several.0 (values_halves d several.1)
          ∙ sym (ap₂ ◌+◌ (ap (sum_by w) (points_in_some (first_half box) some_first)) (ap (sum_by w) (points_in_some (second_half box) some_second)))
          ∙ sym (sum_by-append w (points_in (first_half box)) (points_in (second_half box))));
      each = (λ p. (
        (λ c. elim (in_one_half box v p several.0 (contains_cases box p c)) [
          | inl a ↦ inl (contains_point (first_half box) p some_first a)
          | inr b ↦ inr (contains_point (second_half box) p some_second b)
        ]),
        (λ c. elim c [
          | inl a ↦ contains_point box p some (in_box box v (lower_half d) p (omega (arith, ints, several.1)) (omega (arith, ints, several.1)) several.0 (contains_cases (first_half box) p a))
          | inr b ↦ contains_point box p some (in_box box v (upper_half d) p (omega (arith, ints, several.1)) (omega (arith, ints, several.1)) several.0 (contains_cases (second_half box) p b))
        ]),
      ));
      one = (λ p a b. in_not_both box v (lower_half d) (upper_half d) p (omega (arith, ints)) several.0 (contains_cases (first_half box) p a) (contains_cases (second_half box) p b));
    }
