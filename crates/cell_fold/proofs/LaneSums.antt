-- Summaries of numbers, of two lists and by lanes.
-- Used by the proofs of `LaneRecords`, `added_wrapping`, `greatest_of_lanes`, `larger` and others.
use Rattle.std.proofs.Common.{◌≡◌, ℕ, ◌+◌, ◌*◌, ◌%◌, ◌^◌, ◌-◌, ◌≤◌, max, min, List, [], ◌∷◌, ◌++◌, length, map, refl, ap, ◌∙◌, cond, ltb, w32, arith}
use borrow.Author.Tests.{ltb-true, ltb-false}
use Rattle.std.proofs.lemmas.Bool.{cond_both}
use lib.Lanes.{zip2, sel_l, sum_l, fold_l, Each1}
use mir.Val.{Fits}
use Rattle.cell_fold.specs.Lanes.{upper_half, greatest_of_lanes, least_of_lanes}

-- ---- the larger and the smaller lanes

max_by_test : (x y : ℕ) → cond (ltb x y) y x ≡ max x y
max_by_test x y = cond_both (ltb x y) y x (λ z. z ≡ max x y) (λ e. omega (arith, ltb-true x y e)) (λ e. omega (arith, ltb-false x y e))

min_by_test : (x y : ℕ) → cond (ltb x y) x y ≡ min x y
min_by_test x y = cond_both (ltb x y) x y (λ z. z ≡ min x y) (λ e. omega (arith, ltb-true x y e)) (λ e. omega (arith, ltb-false x y e))

pub sel_l-max : (a b : List ℕ) → length a ≡ length b → sel_l (zip2 ltb a b) b a ≡ zip2 max a b
sel_l-max [] [] e = refl
sel_l-max [] (y ∷ b) e = absurd (omega arith)
sel_l-max (x ∷ a) [] e = absurd (omega arith)
sel_l-max (x ∷ a) (y ∷ b) e = let rest = sel_l-max a b (omega arith) in λ i. max_by_test x y i ∷ rest i

pub sel_l-min : (a b : List ℕ) → length a ≡ length b → sel_l (zip2 ltb a b) a b ≡ zip2 min a b
sel_l-min [] [] e = refl
sel_l-min [] (y ∷ b) e = absurd (omega arith)
sel_l-min (x ∷ a) [] e = absurd (omega arith)
sel_l-min (x ∷ a) (y ∷ b) e = let rest = sel_l-min a b (omega arith) in λ i. min_by_test x y i ∷ rest i

pub greatest_of_lanes-zip2 : (a b : List ℕ) → length a ≡ length b → greatest_of_lanes (zip2 max a b) ≡ max (greatest_of_lanes a) (greatest_of_lanes b)
greatest_of_lanes-zip2 [] [] e = refl
greatest_of_lanes-zip2 [] (y ∷ b) e = absurd (omega arith)
greatest_of_lanes-zip2 (x ∷ a) [] e = absurd (omega arith)
greatest_of_lanes-zip2 (x ∷ a) (y ∷ b) e = omega (arith, greatest_of_lanes-zip2 a b (omega arith))

pub least_of_lanes-zip2 : (a b : List ℕ) → length a ≡ length b → least_of_lanes (zip2 min a b) ≡ min (least_of_lanes a) (least_of_lanes b)
least_of_lanes-zip2 [] [] e = refl
least_of_lanes-zip2 [] (y ∷ b) e = absurd (omega arith)
least_of_lanes-zip2 (x ∷ a) [] e = absurd (omega arith)
least_of_lanes-zip2 (x ∷ a) (y ∷ b) e = omega (arith, least_of_lanes-zip2 a b (omega arith))

-- ---- two lists one after the other

pub lowest_le : (ns : List ℕ) → least_of_lanes ns ≤ 2 ^ 32 - 1
lowest_le [] = omega arith
lowest_le (n ∷ ns) = omega (arith, lowest_le ns)

pub greatest_of_lanes-append : (xs ys : List ℕ) → greatest_of_lanes (xs ++ ys) ≡ max (greatest_of_lanes xs) (greatest_of_lanes ys)
greatest_of_lanes-append [] ys = omega arith
greatest_of_lanes-append (x ∷ xs) ys = omega (arith, greatest_of_lanes-append xs ys)

pub least_of_lanes-append : (xs ys : List ℕ) → least_of_lanes (xs ++ ys) ≡ min (least_of_lanes xs) (least_of_lanes ys)
least_of_lanes-append [] ys = omega (arith, lowest_le ys)
least_of_lanes-append (x ∷ xs) ys = omega (arith, least_of_lanes-append xs ys)

pub sum_l-append : (xs ys : List ℕ) → sum_l (xs ++ ys) ≡ sum_l xs + sum_l ys
sum_l-append [] ys = omega arith
sum_l-append (x ∷ xs) ys = omega (arith, sum_l-append xs ys)

pub sum_l-ones_le : (ns : List ℕ) → sum_l (map (λ n. min n 1) ns) ≤ length ns
sum_l-ones_le [] = omega arith
sum_l-ones_le (n ∷ ns) = omega (arith, sum_l-ones_le ns)

pub sum_l-wrapping : (a b : List ℕ) → length a ≡ length b → sum_l (zip2 (λ x y. (x + y) % 2 ^ 32) a b) % 2 ^ 32 ≡ (sum_l a + sum_l b) % 2 ^ 32
sum_l-wrapping [] [] e = refl
sum_l-wrapping [] (y ∷ b) e = absurd (omega arith)
sum_l-wrapping (x ∷ a) [] e = absurd (omega arith)
sum_l-wrapping (x ∷ a) (y ∷ b) e = omega (arith, sum_l-wrapping a b (omega arith))

pub fold-wrapping : (z : ℕ) (a : List ℕ) → fold_l (λ x y. (x + y) % 2 ^ 32) (z % 2 ^ 32) a ≡ (z + sum_l a) % 2 ^ 32
fold-wrapping z [] = omega arith
fold-wrapping z (x ∷ a) = ap (λ y. fold_l (λ x y. (x + y) % 2 ^ 32) y a) (omega arith) ∙ fold-wrapping (z + x) a ∙ omega arith

-- ---- upper halves

pub upper_half_le : (ns : List ℕ) → Each1 (Fits w32) ns → sum_l (map upper_half ns) ≤ (2 ^ 16 - 1) * length ns
upper_half_le [] fit = omega arith
upper_half_le (n ∷ ns) fit = omega (arith, fit.0.fits, upper_half_le ns fit.1)

pub halves_below : (ns : List ℕ) → 2 ^ 16 * sum_l (map upper_half ns) ≤ sum_l ns
halves_below [] = omega arith
halves_below (n ∷ ns) = omega (arith, halves_below ns)

pub halves_above : (ns : List ℕ) → sum_l ns ≤ 2 ^ 16 * sum_l (map upper_half ns) + (2 ^ 16 - 1) * length ns
halves_above [] = omega arith
halves_above (n ∷ ns) = omega (arith, halves_above ns)
