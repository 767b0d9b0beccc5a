-- Averages by records, compared by products in 128 bits.
-- Used by `aggregate_compares`.
use Rattle.std.proofs.Common.{◌≡◌, ℕ, ◌^◌, ◌≤◌, ◌<◌, List, [], ◌∷◌, length, ℤ, pos, negsuc, ◌*ℤ◌, unsigned_abs, refl, sym, ap, ◌∙◌, arith, SFits, to_z, of_z, w64, lit<}
use Rattle.std.specs.Int.{w128}
use Rattle.std.proofs.lemmas.Int.{ints, fits_signed_mul, to_z-of_z}
use Rattle.std.proofs.Math.Facts.{sfits_widen}
use Rattle.lists.specs.Numbers.{sum_of, count_of}
use Rattle.cells.specs.Records.{record_of}
use Rattle.cells.specs.declared.record.Record.{Record}
use Rattle.query_model.specs.declared.parts.Compare.{Compare}
use Rattle.query_model.specs.declared.parts.Fraction.{Fraction}
use Rattle.query_model.specs.Constraint.{compares, mean_compares}

abs_of_64_bits : (z : ℤ) → SFits w64 z → unsigned_abs z ≤ 2 ^ 63
abs_of_64_bits (pos n) fits = omega (arith, fits.sfits)
abs_of_64_bits (negsuc n) fits = omega (arith, fits.sfits)

-- the product of two 64-bit numbers fits 128 bits
pub wide_product : (a b : ℤ) → SFits w64 a → SFits w64 b
    → to_z w128 (of_z w128 (to_z w128 (of_z w128 (to_z w64 (of_z w64 a))) *ℤ to_z w128 (of_z w128 (to_z w64 (of_z w64 b))))) ≡ a *ℤ b
wide_product a b a_fits b_fits =
    let a_wide : SFits w128 a = sfits_widen {w = w64} {w' = w128} tt a_fits in
    let b_wide : SFits w128 b = sfits_widen {w = w64} {w' = w128} tt b_fits in
    let product : SFits w128 (a *ℤ b) = fits_signed_mul w128 a b (2 ^ 63) (2 ^ 63) (abs_of_64_bits a a_fits) (abs_of_64_bits b b_fits) (lit< tt) in
    simp to_z-of_z refl

-- the same if one is a count
pub wide_count : (a : ℤ) (n : ℕ) → SFits w64 a → n < 2 ^ 32
    → to_z w128 (of_z w128 (to_z w128 (of_z w128 (to_z w64 (of_z w64 a))) *ℤ to_z w128 n)) ≡ a *ℤ pos n
wide_count a n fits few =
    let wide : SFits w128 a = sfits_widen {w = w64} {w' = w128} tt fits in
    let count : to_z w128 n ≡ pos n = omega (arith, ints, few) in
    let product : SFits w128 (a *ℤ pos n) = fits_signed_mul w128 a (pos n) (2 ^ 63) (2 ^ 32) (abs_of_64_bits a fits) (omega (arith, few)) (lit< tt) in
    simp (to_z-of_z, count) refl

compares_mean : (c : Compare) (numbers : List ℤ) (to : Fraction) → 0 < length numbers → mean_compares c numbers to ≡ compares c (to.q *ℤ sum_of numbers) (to.p *ℤ count_of numbers)
compares_mean c [] to some = absurd (omega (arith, some))
compares_mean c (x ∷ xs) to some = refl

-- a mean compares with a fraction as the products do
pub mean_by_record : (c : Compare) (numbers : List ℤ) (to : Fraction) (r : Record) (x y : ℤ) → r ≡ record_of numbers → 0 < r.count → x ≡ to.q *ℤ r.sum → y ≡ to.p *ℤ pos r.count
    → compares c x y ≡ mean_compares c numbers to
mean_by_record c numbers to r x y is some left right =
    let sum = ap (λ s. s.sum) is in let count = ap (λ s. s.count) is in
    (λ i. compares c (left i) (right i)) ∙ (λ i. compares c (to.q *ℤ sum i) (to.p *ℤ pos (count i))) ∙ sym (compares_mean c numbers to (omega (arith, some, count)))
