-- Numbers that every weighing gives the same weight: as many, with one sum, and with the same smallest and largest.
-- Used by the proofs of `cells`.
use Rattle.std.proofs.Common.{◌≡◌, ◌↔◌, ℕ, suc, All, Contains, get_or, inl, inr, List, [], ◌∷◌, length, ℤ, pos, negsuc, ◌+ℤ◌, ◌-ℤ◌, ◌≤ℤ◌, int_lt, refl, sym, ap, subst, ◌∙◌, arith, fold, Some}
use Rattle.std.specs.Int.{int_min, int_max}
use Rattle.std.specs.List.{sum_by}
use Rattle.std.specs.Ordering.{int_eq}
use Rattle.std.proofs.lemmas.Int.{ints, clamps}
use Rattle.std.proofs.lemmas.Bool.{cases_cond}
use Rattle.std.proofs.lemmas.Bool.Decides.{Decides-int_eq}
use Rattle.std.proofs.lemmas.List.Sums.{sum_by-cons}
use Rattle.lists.specs.Numbers.{sum_of, least_of, greatest_of, HaveSameItems}
use Rattle.lists.proofs.Folds.{sum_of-append}
use Rattle.lists.proofs.Members.{IsIn, in_at, in_from_contains, contains_from_in}
use Rattle.lists.proofs.SameItems.{in-same}

-- ---- the sum

above_zero : ℤ → ℕ
above_zero (pos n) = n
above_zero (negsuc n) = 0

below_zero : ℤ → ℕ
below_zero (pos n) = 0
below_zero (negsuc n) = suc n

two_parts : (x : ℤ) → x ≡ pos (above_zero x) -ℤ pos (below_zero x)
unfolding above_zero below_zero
two_parts (pos n) = omega (arith, ints)
two_parts (negsuc n) = omega (arith, ints)

sum_of-sum_by : (xs : List ℤ) → sum_of xs ≡ pos (sum_by above_zero xs) -ℤ pos (sum_by below_zero xs)
sum_of-sum_by [] = omega (arith, ints)
sum_of-sum_by (x ∷ xs) =
    let rest = sum_of-sum_by xs in
    let here = two_parts x in
    let up = sum_by-cons above_zero x xs in
    let down = sum_by-cons below_zero x xs in
    let split : sum_of (x ∷ xs) ≡ sum_of (x ∷ []) +ℤ sum_of xs = sum_of-append (x ∷ []) xs in
    let one : sum_of (x ∷ []) ≡ x = omega (arith, ints) in
    split ∙ omega (arith, ints, rest, here, up, down, one)

pub sum_of-same : (xs ys : List ℤ) → HaveSameItems xs ys → sum_of xs ≡ sum_of ys
sum_of-same xs ys same = sum_of-sum_by xs ∙ (λ i. pos (same above_zero i) -ℤ pos (same below_zero i)) ∙ sym (sum_of-sum_by ys)

-- ---- the least and the greatest

same_in : (xs ys : List ℤ) → HaveSameItems xs ys → (x : ℤ) → IsIn x xs → IsIn x ys
same_in = in-same int_eq Decides-int_eq

least_in : (x : ℤ) (xs : List ℤ) → IsIn (fold int_min x xs) (x ∷ xs)
least_in x [] = inl refl
least_in x (y ∷ ys) =
    elim (least_in (int_min x y) ys) [
      | inl e ↦ (elim (cases_cond (int_lt y x) y x (int_min x y) refl) [ inl f ↦ inr (inl (sym f ∙ e)) | inr f ↦ inl (sym f ∙ e) ])
      | inr h ↦ inr (inr h)
    ]

least_below : (x : ℤ) (xs : List ℤ) (y : ℤ) → IsIn y (x ∷ xs) → fold int_min x xs ≤ℤ y
least_below x [] y (inl e) = omega (arith, ints, e)
least_below x [] y (inr h) = elim h [ ]
least_below x (z ∷ zs) y (inl e) = let h = least_below (int_min x z) zs (int_min x z) (inl refl) in omega (arith, ints, clamps, e, h)
least_below x (z ∷ zs) y (inr (inl e)) = let h = least_below (int_min x z) zs (int_min x z) (inl refl) in omega (arith, ints, clamps, e, h)
least_below x (z ∷ zs) y (inr (inr m)) = least_below (int_min x z) zs y (inr m)

greatest_in : (x : ℤ) (xs : List ℤ) → IsIn (fold int_max x xs) (x ∷ xs)
greatest_in x [] = inl refl
greatest_in x (y ∷ ys) =
    elim (greatest_in (int_max x y) ys) [
      | inl e ↦ (elim (cases_cond (int_lt y x) x y (int_max x y) refl) [ inl f ↦ inl (sym f ∙ e) | inr f ↦ inr (inl (sym f ∙ e)) ])
      | inr h ↦ inr (inr h)
    ]

greatest_above : (x : ℤ) (xs : List ℤ) (y : ℤ) → IsIn y (x ∷ xs) → y ≤ℤ fold int_max x xs
greatest_above x [] y (inl e) = omega (arith, ints, e)
greatest_above x [] y (inr h) = elim h [ ]
greatest_above x (z ∷ zs) y (inl e) = let h = greatest_above (int_max x z) zs (int_max x z) (inl refl) in omega (arith, ints, clamps, e, h)
greatest_above x (z ∷ zs) y (inr (inl e)) = let h = greatest_above (int_max x z) zs (int_max x z) (inl refl) in omega (arith, ints, clamps, e, h)
greatest_above x (z ∷ zs) y (inr (inr m)) = greatest_above (int_max x z) zs y (inr m)

pub ends-same : (xs ys : List ℤ) → length xs ≡ length ys → HaveSameItems xs ys → (least_of xs ≡ least_of ys) × (greatest_of xs ≡ greatest_of ys)
ends-same [] [] long same = (refl, refl)
ends-same [] (y ∷ ys) long same = absurd (omega arith)
ends-same (x ∷ xs) [] long same = absurd (omega arith)
ends-same (x ∷ xs) (y ∷ ys) long same =
    let back : HaveSameItems (y ∷ ys) (x ∷ xs) = λ weight. sym (same weight) in
    let a = least_below x xs (fold int_min y ys) (same_in (y ∷ ys) (x ∷ xs) back (fold int_min y ys) (least_in y ys)) in
    let b = least_below y ys (fold int_min x xs) (same_in (x ∷ xs) (y ∷ ys) same (fold int_min x xs) (least_in x xs)) in
    let c = greatest_above x xs (fold int_max y ys) (same_in (y ∷ ys) (x ∷ xs) back (fold int_max y ys) (greatest_in y ys)) in
    let d = greatest_above y ys (fold int_max x xs) (same_in (x ∷ xs) (y ∷ ys) same (fold int_max x xs) (greatest_in x xs)) in
    let least : fold int_min x xs ≡ fold int_min y ys = omega (arith, ints, a, b) in
    let greatest : fold int_max x xs ≡ fold int_max y ys = omega (arith, ints, c, d) in
    (ap Some least, ap Some greatest)

-- the least is the one among the numbers that is at most each of them
pub least-is : (xs : List ℤ) (m : ℤ) → (least_of xs ≡ Some m) ↔ (Contains xs m × All (λ x. m ≤ℤ x) xs)
least-is [] m = ((λ e. absurd (cc)), (λ h. absurd (omega (arith, h.0.1))))
least-is (x ∷ xs) m = (
  (λ e.
      let is : fold int_min x xs ≡ m = cc in (
        contains_from_in (x ∷ xs) m (subst (λ y. IsIn y (x ∷ xs)) is (least_in x xs)),
        (λ k d below. subst (λ y. y ≤ℤ get_or (x ∷ xs) k d) is (least_below x xs (get_or (x ∷ xs) k d) (in_at (x ∷ xs) k d below))),
      )),
  (λ h.
      let least = fold int_min x xs in
      let there = contains_from_in (x ∷ xs) least (least_in x xs) in
      let below : m ≤ℤ least = subst (λ y. m ≤ℤ y) there.2 (h.1 there.0 least there.1) in
      let above = least_below x xs m (in_from_contains (x ∷ xs) m h.0) in
      let same : least ≡ m = omega (arith, ints, below, above) in ap Some same),
)

-- the greatest is the one among the numbers that is at least each of them
pub greatest-is : (xs : List ℤ) (m : ℤ) → (greatest_of xs ≡ Some m) ↔ (Contains xs m × All (λ x. x ≤ℤ m) xs)
greatest-is [] m = ((λ e. absurd (cc)), (λ h. absurd (omega (arith, h.0.1))))
greatest-is (x ∷ xs) m = (
  (λ e.
      let is : fold int_max x xs ≡ m = cc in (
        contains_from_in (x ∷ xs) m (subst (λ y. IsIn y (x ∷ xs)) is (greatest_in x xs)),
        (λ k d below. subst (λ y. get_or (x ∷ xs) k d ≤ℤ y) is (greatest_above x xs (get_or (x ∷ xs) k d) (in_at (x ∷ xs) k d below))),
      )),
  (λ h.
      let greatest = fold int_max x xs in
      let there = contains_from_in (x ∷ xs) greatest (greatest_in x xs) in
      let above : greatest ≤ℤ m = subst (λ y. y ≤ℤ m) there.2 (h.1 there.0 greatest there.1) in
      let below = greatest_above x xs m (in_from_contains (x ∷ xs) m h.0) in
      let same : greatest ≡ m = omega (arith, ints, below, above) in ap Some same),
)
