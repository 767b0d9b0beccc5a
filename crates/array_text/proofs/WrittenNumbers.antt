-- The digits of a number write that number.
-- Used by the proofs of `PlainWords`, `digits_write_the_cell` and `digits_write_the_number`.
use Rattle.std.proofs.Common.{◌≡◌, ◌≢◌, ℕ, suc, ◌+◌, ◌-◌, ◌*◌, ◌/◌, ◌%◌, ◌<◌, ◌≤◌, ◌^◌, ◌&&◌, nat_le, cond, List, [], ◌∷◌, ◌++◌, length, Option, Some, None, refl, ap, ◌∙◌, arith, ℤ, pos, negsuc, neg_ℤ}
use Rattle.std.specs.Fmt.{decimal, signed_decimal}
use Rattle.std.specs.Option.{option_and_then, option_map}
use Rattle.std.proofs.lemmas.Bool.{le-leb}
use Rattle.std.proofs.lemmas.Fmt.{decimal_by_steps, decimal_nonempty, length-decimal-le}
use Rattle.std.proofs.lemmas.Int.{ints}
use Rattle.lists.specs.Numbers.{IsWithin}
use Rattle.array_text.specs.Numbers.{digit_of, digits_from, layout_number, cell_number, stored, positive_cell, cell_of}
use Rattle.array_text.proofs.Leading.{number_up_to-some, positive_word}

digit_of-digit : (e : ℕ) → e < 10 → digit_of (48 + e) ≡ Some e
digit_of-digit e below =
    let low = le-leb 48 (48 + e) (omega arith) in
    let high = le-leb (48 + e) 57 (omega arith) in
    let same : 48 + e - 48 ≡ e = omega arith in
    ap (λ p. cond (p && nat_le (48 + e) 57) (Some (48 + e - 48)) None) low
    ∙ ap (λ p. cond p (Some (48 + e - 48)) None) high ∙ ap Some same

digits_from-one : (m e : ℕ) → e < 10 → digits_from m ((48 + e) ∷ []) ≡ Some (10 * m + e)
unfolding digits_from
digits_from-one m e below = ap (option_and_then (λ d. Some (10 * m + d))) (digit_of-digit e below)

-- a digit after others
then_digit : (f g : ℕ → Option ℕ) (o : Option ℕ) (v n : ℕ) → ((d : ℕ) → f d ≡ Some v → g d ≡ Some n) → option_and_then f o ≡ Some v → option_and_then g o ≡ Some n
then_digit f g None v n more e = cc
then_digit f g (Some d) v n more e = more d e

digits_from-last : (m : ℕ) (ds : List ℕ) (v e : ℕ) → e < 10 → digits_from m ds ≡ Some v → digits_from m (ds ++ (48 + e) ∷ []) ≡ Some (10 * v + e)
unfolding digits_from
digits_from-last m [] v e below is =
    let same : m ≡ v = cc in
    ap (option_and_then (λ d. Some (10 * m + d))) (digit_of-digit e below) ∙ ap (λ k. Some (10 * k + e)) same
digits_from-last m (b ∷ ds) v e below is =
    then_digit (λ d. digits_from (10 * m + d) ds) (λ d. digits_from (10 * m + d) (ds ++ (48 + e) ∷ [])) (digit_of b) v (10 * v + e)
    (λ d. digits_from-last (10 * m + d) ds v e below) is

pub digits_from-decimal : (n : ℕ) → n < 2 ^ 64 → digits_from 0 (decimal n) ≡ Some n
digits_from-decimal = decimal_by_steps (λ n ds. digits_from 0 ds ≡ Some n)
    (λ n below. digits_from-one 0 n below ∙ ap Some (omega arith))
    (λ n ds some is. digits_from-last 0 ds (n / 10) (n % 10) (omega arith) is ∙ ap Some (omega arith))

pub layout_number-decimal : (n : ℕ) → n < 4294967296 → layout_number (decimal n) ≡ Some n
layout_number-decimal n few =
    let wide : n < 2 ^ 64 = omega arith in
    number_up_to-some 4294967295 (decimal n) n (decimal_nonempty n wide) (length-decimal-le 10 n (omega arith) (omega arith) wide)
    (digits_from-decimal n wide) (omega arith)

cell_number-decimal : (n : ℕ) → n ≤ 2147483647 → cell_number (decimal n) ≡ Some n
cell_number-decimal n few =
    let wide : n < 2 ^ 64 = omega arith in
    number_up_to-some 2147483647 (decimal n) n (decimal_nonempty n wide) (length-decimal-le 10 n (omega arith) (omega arith) wide)
    (digits_from-decimal n wide) few

-- ---- cells

-- a word of digits begins neither with `.` nor with `-`
no_sign : (w : List ℕ) (n b : ℕ) (ds : List ℕ) → digits_from 0 w ≡ Some n → w ≡ b ∷ ds → digit_of b ≡ None → ⊥
unfolding digits_from
no_sign w n b ds digits is none =
    let first : digits_from 0 (b ∷ ds) ≡ None = ap (option_and_then (λ d. digits_from (10 * 0 + d) ds)) none in
    let same : digits_from 0 w ≡ digits_from 0 (b ∷ ds) = ap (digits_from 0) is in
    cc

digits_cell : (w : List ℕ) (n : ℕ) → 0 < length w → digits_from 0 w ≡ Some n → cell_of w ≡ positive_cell w
digits_cell [] n some digits = absurd (omega arith)
digits_cell (b ∷ ds) n some digits =
    let no_point : b ≢ 46 = λ e. no_sign (b ∷ ds) n b ds digits refl (ap digit_of e) in
    let no_minus : b ≢ 45 = λ e. no_sign (b ∷ ds) n b ds digits refl (ap digit_of e) in
    positive_word b ds no_point no_minus

pub cell_of-decimal : (z : ℤ) → IsWithin z 2147483647 → cell_of (signed_decimal z) ≡ Some (stored z)
unfolding cell_of
cell_of-decimal (pos n) within =
    let few : n ≤ 2147483647 = omega (arith, ints, within.high) in
    let wide : n < 2 ^ 64 = omega arith in
    digits_cell (decimal n) n (decimal_nonempty n wide) (digits_from-decimal n wide) ∙ ap (option_map (λ n. stored (pos n))) (cell_number-decimal n few)
cell_of-decimal (negsuc n) within =
    let few : suc n ≤ 2147483647 = omega (arith, ints, within.low) in
    ap (option_map (λ n. stored (neg_ℤ (pos n)))) (cell_number-decimal (suc n) few)
