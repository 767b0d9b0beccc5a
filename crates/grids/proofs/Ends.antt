-- Ends of rectangles: where two rectangles meet, and when one lies inside another.
-- Used by the proofs of `cells`.
use Rattle.std.proofs.Common.{◌≡◌, ℕ, zero, suc, ◌-◌, ◌*◌, ◌<◌, ◌≤◌, min, max, nat_lt, nat_le, Bool, true, false, ◌&&◌, List, [], ◌∷◌, length, map, refl, ◌∙◌, arith}
use Rattle.std.specs.Prelude.{zip}
use Rattle.std.proofs.lemmas.Bool.{and_parts, and_from, ltb-true, lt-ltb, leb-true, le-leb}
use Rattle.std.proofs.lemmas.Bool.Decides.{nat_tests}
use Rattle.lists.specs.Numbers.{product}
use Rattle.grids.specs.Ends.{is_between_ends}

-- ---- ends

pub between-parts : (f t c : ℕ) (fs ts cs : List ℕ) → is_between_ends (f ∷ fs) (t ∷ ts) (c ∷ cs) ≡ true → (f ≤ c) × (c < t) × (is_between_ends fs ts cs ≡ true)
between-parts f t c fs ts cs h =
    let a = and_parts (nat_le f c && nat_lt c t) (is_between_ends fs ts cs) h in
    let b = and_parts (nat_le f c) (nat_lt c t) a.0 in
    (leb-true f c b.0, ltb-true c t b.1, a.1)

pub between-from : (f t c : ℕ) (fs ts cs : List ℕ) → f ≤ c → c < t → is_between_ends fs ts cs ≡ true → is_between_ends (f ∷ fs) (t ∷ ts) (c ∷ cs) ≡ true
between-from f t c fs ts cs low high rest =
    and_from (nat_le f c && nat_lt c t) (is_between_ends fs ts cs) (and_from (nat_le f c) (nat_lt c t) (le-leb f c low) (lt-ltb c t high)) rest

-- how long a rectangle with these ends is in each dimension, and where two meet
abbrev pub lengths : List ℕ → List ℕ → List ℕ
lengths fs ts = map (λ (f, t). t - f) (zip fs ts)

abbrev pub latest : List ℕ → List ℕ → List ℕ
latest fs gs = map (λ (f, g). max f g) (zip fs gs)

abbrev pub earliest : List ℕ → List ℕ → List ℕ
earliest ts us = map (λ (t, u). min t u) (zip ts us)

-- ---- rectangles with a cell

pub product-some : (n m : ℕ) → 0 < n → 0 < m → 0 < n * m
product-some n m h k = grind arith

pub product-first : (n m : ℕ) → 0 < n * m → 0 < n
product-first zero m h = absurd (omega arith)
product-first (suc n) m h = omega arith

pub product-second : (n m : ℕ) → 0 < n * m → 0 < m
product-second n zero h = absurd (omega arith)
product-second n (suc m) h = omega arith

-- a rectangle in which a cell lies has one
pub some_place : (fs ts at : List ℕ) → is_between_ends fs ts at ≡ true → 0 < product (lengths fs ts)
some_place [] ts at h = omega arith
some_place (f ∷ fs) [] at h = omega arith
some_place (f ∷ fs) (t ∷ ts) [] h = cc
some_place (f ∷ fs) (t ∷ ts) (c ∷ cs) h =
    let b = between-parts f t c fs ts cs h in product-some (t - f) (product (lengths fs ts)) (omega (arith, b.0, b.1)) (some_place fs ts cs b.2)

-- a rectangle that has a cell has its first cell
pub first_place : (fs ts : List ℕ) → length ts ≡ length fs → 0 < product (lengths fs ts) → is_between_ends fs ts fs ≡ true
first_place [] [] long some = refl
first_place [] (t ∷ ts) long some = absurd (omega arith)
first_place (f ∷ fs) [] long some = absurd (omega arith)
first_place (f ∷ fs) (t ∷ ts) long some =
    let here = product-first (t - f) (product (lengths fs ts)) some in
    between-from f t f fs ts fs (omega arith) (omega arith) (first_place fs ts (omega arith) (product-second (t - f) (product (lengths fs ts)) some))

-- ---- where two meet

pub low_ends : (f g c : ℕ) → nat_le (max f g) c ≡ (nat_le f c && nat_le g c)
low_ends f g c = grind (arith, nat_tests)

pub high_ends : (t u c : ℕ) → nat_lt c (min t u) ≡ (nat_lt c t && nat_lt c u)
high_ends t u c = grind (arith, nat_tests)

pub apart : (a b x y p q : Bool) → (((a && b) && (x && y)) && (p && q)) ≡ (((a && x) && p) && ((b && y) && q))
apart false b x y p q = refl
apart true false false y p q = refl
apart true false true y false q = refl
apart true false true y true q = refl
apart true true false y p q = refl
apart true true true false false q = refl
apart true true true false true q = refl
apart true true true true p q = refl

pub between-meet : (fs ts gs us at : List ℕ) → length ts ≡ length fs → length gs ≡ length fs → length us ≡ length fs
    → is_between_ends (latest fs gs) (earliest ts us) at ≡ (is_between_ends fs ts at && is_between_ends gs us at)
between-meet [] [] [] [] [] a b c = refl
between-meet [] [] [] [] (x ∷ xs) a b c = refl
between-meet [] [] [] (u ∷ us) at a b c = absurd (omega arith)
between-meet [] [] (g ∷ gs) us at a b c = absurd (omega arith)
between-meet [] (t ∷ ts) gs us at a b c = absurd (omega arith)
between-meet (f ∷ fs) [] gs us at a b c = absurd (omega arith)
between-meet (f ∷ fs) (t ∷ ts) [] us at a b c = absurd (omega arith)
between-meet (f ∷ fs) (t ∷ ts) (g ∷ gs) [] at a b c = absurd (omega arith)
between-meet (f ∷ fs) (t ∷ ts) (g ∷ gs) (u ∷ us) [] a b c = refl
between-meet (f ∷ fs) (t ∷ ts) (g ∷ gs) (u ∷ us) (x ∷ xs) a b c =
    (λ i. (low_ends f g x i && high_ends t u x i) && between-meet fs ts gs us xs (omega arith) (omega arith) (omega arith) i)
    ∙ apart (nat_le f x) (nat_le g x) (nat_lt x t) (nat_lt x u) (is_between_ends fs ts xs) (is_between_ends gs us xs)

-- ---- one inside another

pub between-inside : (fs ts gs us : List ℕ) → length ts ≡ length fs → 0 < product (lengths fs ts) → ((at : List ℕ) → is_between_ends fs ts at ≡ true → is_between_ends gs us at ≡ true)
    → (latest fs gs ≡ fs) × (earliest ts us ≡ ts)
between-inside [] [] gs us long some h = (refl, refl)
between-inside [] (t ∷ ts) gs us long some h = absurd (omega arith)
between-inside (f ∷ fs) [] gs us long some h = absurd (omega arith)
between-inside (f ∷ fs) (t ∷ ts) [] [] long some h = let no = h (f ∷ fs) (first_place (f ∷ fs) (t ∷ ts) long some) in cc
between-inside (f ∷ fs) (t ∷ ts) [] (u ∷ us) long some h = let no = h (f ∷ fs) (first_place (f ∷ fs) (t ∷ ts) long some) in cc
between-inside (f ∷ fs) (t ∷ ts) (g ∷ gs) [] long some h = let no = h (f ∷ fs) (first_place (f ∷ fs) (t ∷ ts) long some) in cc
between-inside (f ∷ fs) (t ∷ ts) (g ∷ gs) (u ∷ us) long some h =
    let here = product-first (t - f) (product (lengths fs ts)) some in
    let more = product-second (t - f) (product (lengths fs ts)) some in
    let rest = first_place fs ts (omega arith) more in
    let low = between-parts g u f gs us fs (h (f ∷ fs) (between-from f t f fs ts fs (omega arith) (omega arith) rest)) in
    let high = between-parts g u (t - 1) gs us fs (h ((t - 1) ∷ fs) (between-from f t (t - 1) fs ts fs (omega arith) (omega arith) rest)) in
    let all = between-inside fs ts gs us (omega arith) more (λ at k. (between-parts g u f gs us at (h (f ∷ at) (between-from f t f fs ts at (omega arith) (omega arith) k))).2) in
    let first : max f g ≡ f = omega (arith, low.0) in
    let last : min t u ≡ t = omega (arith, high.1) in
    ((λ i. first i ∷ all.0 i), (λ i. last i ∷ all.1 i))
