-- The digits of the first word, one after the other.
-- Used by the proofs of `Leading` and `leading_digits`.
use Rattle.std.proofs.Common.{◌≡◌, ℕ, ◌+◌, ◌*◌, ◌<◌, ◌≤◌, ◌^◌, ◌&&◌, nat_le, Bool, true, false, cond, List, ◌∷◌, length, get_or, drop, Option, Some, None, refl, ap, ◌∙◌, arith}
use Rattle.std.specs.Option.{option_and_then}
use Rattle.std.proofs.Math.Seq.{drop-length}
use Rattle.std.proofs.Math.Bool.{and-false}
use Rattle.std.proofs.Math.Nat.{pow-succ', pow-le-pow_right}
use Rattle.std.proofs.lemmas.Bool.{lt-leb}
use Rattle.array_text.specs.Numbers.{digit_of, digits_from, number_written}
use Rattle.array_text.specs.Words.{is_blank, first_word}
use Rattle.array_text.proofs.FirstWords.{first_word-blank, first_word-more}

-- after the last digit, the number is known
pub digits_from-end : (bs : List ℕ) (i v : ℕ) → i < length bs → is_blank (get_or bs i 0) ≡ true → digits_from v (first_word (drop i bs)) ≡ Some v
unfolding digits_from
digits_from-end bs i v h blank = ap (digits_from v) (first_word-blank bs i h blank)

pub digits_from-none : (bs : List ℕ) (v : ℕ) → digits_from v (first_word (drop (length bs) bs)) ≡ Some v
unfolding digits_from
digits_from-none bs v = ap (λ w. digits_from v (first_word w)) (drop-length bs)

digits_from-cons : (v b : ℕ) (w : List ℕ) → digits_from v (b ∷ w) ≡ option_and_then (λ d. digits_from (10 * v + d) w) (digit_of b)
unfolding digits_from
digits_from-cons v b w = refl

-- a digit more
digits_from-at : (bs : List ℕ) (i v : ℕ) → i < length bs → is_blank (get_or bs i 0) ≡ false
    → digits_from v (first_word (drop i bs)) ≡ option_and_then (λ d. digits_from (10 * v + d) (first_word (drop (i + 1) bs))) (digit_of (get_or bs i 0))
digits_from-at bs i v h blank = ap (digits_from v) (first_word-more bs i h blank) ∙ digits_from-cons v (get_or bs i 0) (first_word (drop (i + 1) bs))

pub digits_from-more : (bs : List ℕ) (i v d : ℕ) → i < length bs → is_blank (get_or bs i 0) ≡ false → digit_of (get_or bs i 0) ≡ Some d
    → digits_from v (first_word (drop i bs)) ≡ digits_from (10 * v + d) (first_word (drop (i + 1) bs))
digits_from-more bs i v d h blank digit = digits_from-at bs i v h blank ∙ ap (option_and_then (λ d. digits_from (10 * v + d) (first_word (drop (i + 1) bs)))) digit

-- a byte that is no digit
pub digits_from-other : (bs : List ℕ) (i v : ℕ) → i < length bs → is_blank (get_or bs i 0) ≡ false → digit_of (get_or bs i 0) ≡ None
    → digits_from v (first_word (drop i bs)) ≡ None
digits_from-other bs i v h blank digit = digits_from-at bs i v h blank ∙ ap (option_and_then (λ d. digits_from (10 * v + d) (first_word (drop (i + 1) bs)))) digit

same_cond : (p : Bool) (x : Option ℕ) → cond p x x ≡ x
same_cond true x = refl
same_cond false x = refl

-- if the digits write nothing, the word writes no number
pub number_written-other : (w : List ℕ) → digits_from 0 w ≡ None → number_written w ≡ None
unfolding number_written
number_written-other w none = ap (λ n. cond (nat_le 1 (length w) && nat_le (length w) 10) n None) none ∙ same_cond (nat_le 1 (length w) && nat_le (length w) 10) None

-- eleven bytes are too many
pub number_written-long : (w : List ℕ) → 10 < length w → number_written w ≡ None
unfolding number_written
number_written-long w long =
    ap (λ p. cond (nat_le 1 (length w) && p) (digits_from 0 w) None) (lt-leb (length w) 10 long)
    ∙ ap (λ p. cond p (digits_from 0 w) None) (and-false (nat_le 1 (length w)))

-- after so many digits, the word writes no number
pub digits_fit : (v d i : ℕ) → v < 10 ^ i → d < 10 → 10 * v + d < 10 ^ (i + 1)
digits_fit v d i below digit =
    let next : 10 ^ (i + 1) ≡ 10 * 10 ^ i = ap (λ k. 10 ^ k) (omega arith) ∙ pow-succ' 10 i in
    omega (arith, next)

pub digits_few : (v i : ℕ) → v < 10 ^ i → i ≤ 10 → v < 10000000000
digits_few v i below few = let more : 10 ^ i ≤ 10 ^ 10 = pow-le-pow_right (omega arith) few in omega (arith, more)
