-- Terms of expressions, and how large their sums get.
-- Used by the values of terms and expressions.
use Rattle.std.proofs.Common.{◌≡◌, ℕ, ◌+◌, ◌*◌, ◌^◌, ◌≤◌, ◌<◌, List, take, length, get_or, map, ℤ, ◌+ℤ◌, ◌*ℤ◌, unsigned_abs, sym, ap, ◌∙◌, arith, SFits, to_z, of_z, w64, w32, lit<}
use Rattle.std.proofs.lemmas.Int.{ints, unsigned_abs-mul, fits_signed_mul, to_z-of_z}
use Rattle.std.proofs.Math.Facts.{sfits_widen}
use Rattle.std.proofs.Math.Nat.{mul-le-mul}
use Rattle.lists.specs.Numbers.{sum_of, IsWithin}
use Rattle.lists.proofs.Sums.{within_abs, abs_of_32_bits, sum_of-map_more}

-- a factor within 2^20 times a 32-bit number
product_within : (f v : ℤ) → unsigned_abs f ≤ 2 ^ 20 → SFits w32 v → IsWithin (f *ℤ v) (2 ^ 51)
product_within f v small fits = within_abs (f *ℤ v) (2 ^ 51) (rw (unsigned_abs-mul f v) (mul-le-mul small (abs_of_32_bits v fits)))

-- the same in the code's arithmetic
pub term_within : (f v : ℤ) → SFits w32 f → SFits w32 v → unsigned_abs f ≤ 2 ^ 20
    → IsWithin (to_z w64 (of_z w64 (to_z w64 (of_z w64 (to_z w32 (of_z w32 f))) *ℤ to_z w64 (of_z w64 (to_z w32 (of_z w32 v)))))) (2 ^ 51)
term_within f v f_fits v_fits small =
    let f_64 : SFits w64 f = sfits_widen {w = w32} {w' = w64} tt f_fits in
    let v_64 : SFits w64 v = sfits_widen {w = w32} {w' = w64} tt v_fits in
    let product : SFits w64 (f *ℤ v) = fits_signed_mul w64 f v (2 ^ 20) (2 ^ 31) small (abs_of_32_bits v v_fits) (lit< tt) in
    simp to_z-of_z (product_within f v small v_fits)

-- one term r more, added to a total of a constant and the first i terms
pub term_step : {X : Type 0} (f : X → ℤ) (xs : List X) (i : ℕ) (d : X) (total c r : ℤ) → i < length xs → length xs ≤ 8 → r ≡ f (get_or xs i d)
    → total ≡ c +ℤ sum_of (map f (take i xs)) → IsWithin c (2 ^ 60) → IsWithin (sum_of (map f (take i xs))) (2 ^ 51 * i) → IsWithin r (2 ^ 51)
    → (to_z w64 (of_z w64 (total +ℤ to_z w64 (of_z w64 r))) ≡ c +ℤ sum_of (map f (take (i + 1) xs))) × IsWithin (sum_of (map f (take (i + 1) xs))) (2 ^ 51 * (i + 1))
term_step f xs i d total c r below short is_term is_total constant sum term =
    let more : sum_of (map f (take (i + 1) xs)) ≡ sum_of (map f (take i xs)) +ℤ r =
    sum_of-map_more f xs i d below ∙ ap (λ t. sum_of (map f (take i xs)) +ℤ t) (sym is_term) in (
      omega (arith, ints, more, constant.low, constant.high, sum.low, sum.high, term.low, term.high),
      record { low = omega (arith, ints, more, sum.low, sum.high, term.low, term.high); high = omega (arith, ints, more, sum.low, sum.high, term.low, term.high) },
    )
