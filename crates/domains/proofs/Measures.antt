-- The measure of a box: what it counts, and that each half has a smaller one.
-- Used by the laws `measure_is_least` and `halves_are_smaller`.
use Rattle.std.proofs.Common.{◌≡◌, ℕ, zero, suc, ◌+◌, ◌*◌, ◌/◌, ◌^◌, ◌<◌, ◌≤◌, List, [], ◌∷◌, length, set, ap, arith, ◌<ℤ◌, unsigned_abs, ◌-ℤ◌}
use Rattle.std.proofs.lemmas.Int.{ints}
use Rattle.std.proofs.Math.Nat.{pow-suc}
use Rattle.domains.specs.declared.dom.Dom.{Dom}
use Rattle.domains.specs.Values.{HasValue, size_of}
use Rattle.domains.specs.VarBoxes.{HaveValues, points_in}
use Rattle.domains.specs.Splits.{lower_half, upper_half, domain_at, widest, first_half, second_half, halvings_to, bits_for, measure_of}
use Rattle.domains.proofs.Values.{size_is}
use Rattle.domains.proofs.Widest.{widest_several}

-- ---- the least power of two

halvings_enough : (fuel n : ℕ) → n ≤ fuel → n < 2 ^ halvings_to fuel n
halvings_enough zero zero h = omega arith
halvings_enough zero (suc n) h = absurd (omega arith)
halvings_enough (suc fuel) zero h = omega arith
halvings_enough (suc fuel) (suc n) h =
    let k = halvings_enough fuel (suc n / 2) (omega arith) in
    let e : 2 ^ suc (halvings_to fuel (suc n / 2)) ≡ 2 ^ halvings_to fuel (suc n / 2) * 2 = pow-suc 2 (halvings_to fuel (suc n / 2)) in
    omega (arith, k, e)

halvings_least : (fuel n k : ℕ) → n < 2 ^ k → halvings_to fuel n ≤ k
halvings_least zero n k h = omega arith
halvings_least (suc fuel) zero k h = omega arith
halvings_least (suc fuel) (suc n) zero h = absurd (omega arith)
halvings_least (suc fuel) (suc n) (suc k) h =
    let e : 2 ^ suc k ≡ 2 ^ k * 2 = pow-suc 2 k in let i = halvings_least fuel (suc n / 2) k (omega (arith, e)) in omega (arith, i)

pub bits_enough : (n : ℕ) → n ≤ 2 ^ bits_for n
unfolding bits_for
bits_enough zero = omega arith
bits_enough (suc n) = let h = halvings_enough n n (omega arith) in omega (arith, h)

pub bits_least : (n k : ℕ) → n ≤ 2 ^ k → bits_for n ≤ k
unfolding bits_for
bits_least zero k h = omega arith
bits_least (suc n) k h = halvings_least n n k (omega arith)

halvings_mono : (f g m n : ℕ) → m ≤ n → m ≤ f → n ≤ g → halvings_to f m ≤ halvings_to g n
halvings_mono zero g m n h i j = omega arith
halvings_mono (suc f) g zero n h i j = omega arith
halvings_mono (suc f) zero (suc m) n h i j = absurd (omega arith)
halvings_mono (suc f) (suc g) (suc m) zero h i j = absurd (omega arith)
halvings_mono (suc f) (suc g) (suc m) (suc n) h i j = let k = halvings_mono f g (suc m / 2) (suc n / 2) (omega arith) (omega arith) (omega arith) in omega (arith, k)

-- from a half on there is one less
bits_half : (m n : ℕ) → 0 < n → m ≤ n / 2 → bits_for (suc m) < bits_for (suc n)
unfolding bits_for
bits_half m zero h k = absurd (omega arith)
bits_half m (suc n) h k = let b = halvings_mono m n m (suc n / 2) k (omega arith) (omega arith) in omega (arith, b)

-- ---- in the halves

measure-set : (box : List Dom) (v : ℕ) (d : Dom) → v < length box → measure_of (set box v d) + bits_for (size_of (domain_at box v)) ≡ measure_of box + bits_for (size_of d)
measure-set [] v d h = absurd (omega arith)
measure-set (x ∷ box) zero d h = omega arith
measure-set (x ∷ box) (suc v) d h = let k = measure-set box v d (omega arith) in omega (arith, k)

-- how far the ends lie apart
abbrev pub spread : Dom → ℕ
spread d = unsigned_abs (d.hi -ℤ d.lo)

pub size_spread : (d : Dom) → HasValue d → size_of d ≡ suc (spread d)
size_spread d h = let e = size_is d (omega (arith, ints)) in omega (arith, ints, e)

fewer_bits : (d half : Dom) → d.lo <ℤ d.hi → HasValue half → spread half ≤ spread d / 2 → bits_for (size_of half) < bits_for (size_of d)
fewer_bits d half several some small =
    let a = size_spread half some in let b = size_spread d (omega (arith, ints)) in
    let less = bits_half (spread half) (spread d) (omega (arith, ints)) small in
    omega (arith, less, ap bits_for a, ap bits_for b)

pub measures_fall : (box : List Dom) → HaveValues box → 1 < length (points_in box) → (measure_of (first_half box) < measure_of box) × (measure_of (second_half box) < measure_of box)
measures_fall box h more =
    let v = widest box in let d = domain_at box v in
    let several = widest_several box h more in
    let low = fewer_bits d (lower_half d) several.1 (omega (arith, ints, several.1)) (omega (arith, ints, several.1)) in
    let high = fewer_bits d (upper_half d) several.1 (omega (arith, ints, several.1)) (omega (arith, ints, several.1)) in
    let a = measure-set box v (lower_half d) several.0 in
    let b = measure-set box v (upper_half d) several.0 in
    (omega (arith, low, a), omega (arith, high, b))
