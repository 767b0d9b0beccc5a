-- The values of a domain: which they are, how many, and that they rise.
-- Used by most other files here, and by `Dom::value`.
use Rattle.std.proofs.Common.{◌≡◌, ℕ, zero, suc, ◌+◌, ◌<◌, inl, inr, ◌∷◌, ◌++◌, length, refl, ap, ◌∙◌, arith, ℤ, pos, negsuc, ◌+ℤ◌, ◌-ℤ◌, ◌≤ℤ◌, ◌<ℤ◌}
use Rattle.std.proofs.lemmas.Int.{ints, by_lt_z}
use Rattle.domains.specs.declared.dom.Dom.{Dom}
use Rattle.domains.specs.Values.{HasValue, integers_from, at_least_zero, size_of, values_of}
use Rattle.lists.proofs.Members.{IsIn}
use Rattle.lists.proofs.Rising.{Rises}

-- ---- how many

at_least_zero-pos : (z : ℤ) → pos 0 ≤ℤ z → pos (at_least_zero z) ≡ z
at_least_zero-pos (pos n) h = refl
at_least_zero-pos (negsuc n) h = absurd (omega (arith, ints))

at_least_zero-below : (z : ℤ) → z <ℤ pos 0 → at_least_zero z ≡ 0
at_least_zero-below (pos n) h = absurd (omega (arith, ints))
at_least_zero-below (negsuc n) h = refl

-- the size of a domain whose upper end is at most one below the lower end
pub size_is : (d : Dom) → d.lo ≤ℤ (d.hi +ℤ pos 1) → (d.lo +ℤ pos (size_of d)) ≡ (d.hi +ℤ pos 1)
size_is d h = let e = at_least_zero-pos ((d.hi +ℤ pos 1) -ℤ d.lo) (omega (arith, ints)) in omega (arith, ints, e)

pub size_none : (d : Dom) → d.hi <ℤ d.lo → size_of d ≡ 0
size_none d h = by_lt_z ((d.hi +ℤ pos 1) -ℤ d.lo) (pos 0) (λ less. at_least_zero-below _ less) (λ more. let e = at_least_zero-pos ((d.hi +ℤ pos 1) -ℤ d.lo) more in omega (arith, ints, e))

pub size_some : (d : Dom) → HasValue d → 0 < size_of d
size_some d h = let e = size_is d (omega (arith, ints)) in omega (arith, ints, e)

below_until : (z : ℤ) (k : ℕ) → k < at_least_zero z → pos k <ℤ z
below_until (pos n) k h = omega (arith, ints)
below_until (negsuc n) k h = absurd (omega arith)

-- each value is at most the greatest
pub value_below : (d : Dom) (k : ℕ) → k < size_of d → (d.lo +ℤ pos k) ≤ℤ d.hi
value_below d k h = let b = below_until ((d.hi +ℤ pos 1) -ℤ d.lo) k h in omega (arith, ints, b)

pub length-integers_from : (x : ℤ) (n : ℕ) → length (integers_from x n) ≡ n
length-integers_from x zero = refl
length-integers_from x (suc n) = ap suc (length-integers_from (x +ℤ pos 1) n)

-- ---- which

in_integers_cases : (n : ℕ) (x y : ℤ) → IsIn y (integers_from x n) → (x ≤ℤ y) × (y <ℤ (x +ℤ pos n))
in_integers_cases zero x y h = elim h [ ]
in_integers_cases (suc n) x y (inl e) = (omega (arith, ints), omega (arith, ints))
in_integers_cases (suc n) x y (inr h) = let r = in_integers_cases n (x +ℤ pos 1) y h in (omega (arith, ints), omega (arith, ints))

in_integers : (n : ℕ) (x y : ℤ) → x ≤ℤ y → y <ℤ (x +ℤ pos n) → IsIn y (integers_from x n)
in_integers zero x y low high = absurd (omega (arith, ints))
in_integers (suc n) x y low high =
    by_lt_z x y (λ less. inr (in_integers n (x +ℤ pos 1) y (omega (arith, ints)) (omega (arith, ints)))) (λ not_less. inl (omega (arith, ints)))

in_until_cases : (z x y : ℤ) → IsIn y (integers_from x (at_least_zero z)) → (x ≤ℤ y) × (y <ℤ (x +ℤ z))
in_until_cases (pos n) x y h = in_integers_cases n x y h
in_until_cases (negsuc n) x y h = elim h [ ]

in_until : (z x y : ℤ) → x ≤ℤ y → y <ℤ (x +ℤ z) → IsIn y (integers_from x (at_least_zero z))
in_until (pos n) x y low high = in_integers n x y low high
in_until (negsuc n) x y low high = absurd (omega (arith, ints))

pub in_values_cases : (d : Dom) (y : ℤ) → IsIn y (values_of d) → (d.lo ≤ℤ y) × (y ≤ℤ d.hi)
in_values_cases d y h =
    let lo = d.lo in let hi = d.hi in
    let c = in_until_cases ((d.hi +ℤ pos 1) -ℤ d.lo) d.lo y h in (c.0, omega (arith, ints))

pub in_values : (d : Dom) (y : ℤ) → d.lo ≤ℤ y → y ≤ℤ d.hi → IsIn y (values_of d)
in_values d y low high = in_until ((d.hi +ℤ pos 1) -ℤ d.lo) d.lo y low (omega (arith, ints))

rises_integers : (n : ℕ) (x : ℤ) → Rises (λ (a b : ℤ). a <ℤ b) (integers_from x n)
rises_integers zero x = tt
rises_integers (suc n) x = ((λ y h. let c = in_integers_cases n (x +ℤ pos 1) y h in omega (arith, ints)), rises_integers n (x +ℤ pos 1))

pub rises_values : (d : Dom) → Rises (λ (a b : ℤ). a <ℤ b) (values_of d)
rises_values d = rises_integers (size_of d) d.lo

-- ---- cut in two

pub integers_from-add : (m n : ℕ) (x : ℤ) → integers_from x (m + n) ≡ integers_from x m ++ integers_from (x +ℤ pos m) n
integers_from-add zero n x = (λ i. integers_from (same i) (none i))
  where
    same : x ≡ (x +ℤ pos 0)
    same = omega (arith, ints)

    none : 0 + n ≡ n
    none = omega arith
integers_from-add (suc m) n x =
    let e : suc m + n ≡ suc (m + n) = omega arith in
    let f : (x +ℤ pos 1) +ℤ pos m ≡ x +ℤ pos (suc m) = omega (arith, ints) in
    ap (integers_from x) e ∙ ap (λ l. x ∷ l) (integers_from-add m n (x +ℤ pos 1) ∙ ap (λ z. integers_from (x +ℤ pos 1) m ++ integers_from z n) f)

-- the values up to one, and those above it
pub values_cut : (d : Dom) (m : ℤ) → d.lo ≤ℤ (m +ℤ pos 1) → m ≤ℤ d.hi
    → values_of d ≡ values_of (record { lo = d.lo; hi = m }) ++ values_of (record { lo = m +ℤ pos 1; hi = d.hi })
values_cut d m low high =
    let below : Dom = record { lo = d.lo; hi = m } in
    let above : Dom = record { lo = m +ℤ pos 1; hi = d.hi } in
    let a : (d.lo +ℤ pos (size_of below)) ≡ (m +ℤ pos 1) = size_is below low in
    let b : ((m +ℤ pos 1) +ℤ pos (size_of above)) ≡ (d.hi +ℤ pos 1) = size_is above (omega (arith, ints)) in
    let c : (d.lo +ℤ pos (size_of d)) ≡ (d.hi +ℤ pos 1) = size_is d (omega (arith, ints)) in
    let whole : size_of d ≡ size_of below + size_of above = omega (arith, ints, a, b, c) in
    ap (integers_from d.lo) whole ∙ integers_from-add (size_of below) (size_of above) d.lo ∙ ap (λ z. values_of below ++ integers_from z (size_of above)) a

-- the first value, and those above it
pub values_first : (d : Dom) → HasValue d → values_of d ≡ d.lo ∷ values_of (record { lo = d.lo +ℤ pos 1; hi = d.hi })
values_first d h =
    let e = size_is d (omega (arith, ints)) in
    let above : Dom = record { lo = d.lo +ℤ pos 1; hi = d.hi } in
    let f = size_is above (omega (arith, ints)) in
    let more : size_of d ≡ suc (size_of above) = omega (arith, ints, e, f) in
    ap (integers_from d.lo) more
