-- The plain word of an item stands for that item.
-- Used by the proofs of `PlainTexts`.
use Rattle.std.proofs.Common.{◌≡◌, ℕ, suc, ◌+◌, ◌*◌, ◌-◌, ◌⊎◌, inl, inr, ◌<◌, ◌≤◌, ◌^◌, ◌&&◌, ◌||◌, ◌==◌, nat_le, Bool, true, false, cond, List, [], ◌∷◌, length, All, Option, Some, None, refl, ap, sym, subst, ◌∙◌, arith, ℤ, pos, negsuc, neg_ℤ, ◌≤ℤ◌, w32, codes}
use Rattle.std.specs.Prelude.{FitsSigned}
use Rattle.std.specs.Fmt.{decimal, signed_decimal}
use Rattle.std.specs.List.{list_any}
use Rattle.std.specs.Option.{option_and_then, option_map_or}
use Rattle.std.specs.Ordering.{int_eq}
use Rattle.std.proofs.lemmas.Bool.{ne_eqb, or_parts, or_from, and_parts, leb-true, cases_lt, true≢false}
use Rattle.std.proofs.lemmas.Bool.Decides.{Decides-int_eq}
use Rattle.std.proofs.lemmas.Fmt.{decimal_nonempty, length-decimal-le}
use Rattle.std.proofs.lemmas.Int.{ints}
use Rattle.std.proofs.lemmas.List.Elements.{All-nil, All-cons}
use Rattle.lists.specs.Numbers.{IsWithin}
use Rattle.lists.proofs.Sums.{most_of_32_bits, fewest_of_32_bits}
use Rattle.cells.specs.declared.cell.Cell.{Cell}
use Rattle.array_text.specs.Contents.{Item, keyword, number, cell, IsWrittenAs}
use Rattle.array_text.specs.Numbers.{digit_of, digits_from, cell_of, stored}
use Rattle.array_text.specs.PlainText.{plain_word}
use Rattle.array_text.specs.Words.{is_blank, is_some_word, IsWord}
use Rattle.array_text.proofs.WrittenNumbers.{digits_from-decimal, layout_number-decimal, cell_of-decimal}

-- ---- words without blanks

abbrev NoBlank : ℕ → Type 0
NoBlank b = is_blank b ≡ false

no_blanks : (w : List ℕ) → list_any is_blank w ≡ false → All NoBlank w
no_blanks [] none = All-nil NoBlank
no_blanks (b ∷ w) none =
    let parts = or_parts (is_blank b) (list_any is_blank w) none in
    All-cons NoBlank b w parts.0 (no_blanks w parts.1)

is_some : (w : List ℕ) → 0 < length w → is_some_word w ≡ true
is_some [] some = absurd (omega arith)
is_some (b ∷ w) some = refl

if_digit : (p : Bool) (n d : ℕ) → cond p (Some n) None ≡ Some d → p ≡ true
if_digit true n d e = refl
if_digit false n d e = absurd (cc)

not_blank : (b : ℕ) → 48 ≤ b → is_blank b ≡ false
not_blank b high =
    or_from (b == 32 || b == 9 || b == 13) (b == 10) (or_from (b == 32 || b == 9) (b == 13) (or_from (b == 32) (b == 9)
    (ne_eqb b 32 (omega arith)) (ne_eqb b 9 (omega arith))) (ne_eqb b 13 (omega arith))) (ne_eqb b 10 (omega arith))

digit_is_no_blank : (b d : ℕ) → digit_of b ≡ Some d → is_blank b ≡ false
digit_is_no_blank b d e =
    not_blank b (leb-true 48 b (and_parts (nat_le 48 b) (nat_le b 57) (if_digit (nat_le 48 b && nat_le b 57) (b - 48) d e)).0)

then_some : (f : ℕ → Option ℕ) (o : Option ℕ) (n : ℕ) → option_and_then f o ≡ Some n → (d : ℕ) × (o ≡ Some d) × (f d ≡ Some n)
then_some f None n e = absurd (cc)
then_some f (Some d) n e = (d, refl, e)

digits_no_blank : (m : ℕ) (w : List ℕ) (n : ℕ) → digits_from m w ≡ Some n → list_any is_blank w ≡ false
unfolding digits_from
digits_no_blank m [] n e = refl
digits_no_blank m (b ∷ w) n e =
    let d = then_some (λ d. digits_from (10 * m + d) w) (digit_of b) n e in
    or_from (is_blank b) (list_any is_blank w) (digit_is_no_blank b d.0 d.1) (digits_no_blank (10 * m + d.0) w n d.2)

decimal_no_blank : (n : ℕ) → n < 2 ^ 64 → list_any is_blank (decimal n) ≡ false
decimal_no_blank n wide = digits_no_blank 0 (decimal n) n (digits_from-decimal n wide)

-- ---- what is written of an item

-- a word of at most 11 bytes
pub record IsShortWord (w : List ℕ) : Type 0 where
  pub word : IsWord w
  pub short : length w ≤ 11

pub short_word : (w : List ℕ) → 0 < length w → list_any is_blank w ≡ false → length w ≤ 11 → IsShortWord w
short_word w some none short = record { word = record { some = is_some w some; no_blank = no_blanks w none }; short = short }

-- an item that fits into 32 bits
abbrev pub Fits : Item → Type 0
Fits (keyword name) = IsShortWord name
Fits (number n) = n < 4294967296
Fits (cell c) = FitsSigned w32 c.0

-- the word is short, and stands for the item
pub record IsPlain (item : Item) : Type 0 where
  pub short : IsShortWord (plain_word item)
  pub writes : IsWrittenAs item (plain_word item)

plain_number : (n : ℕ) → n < 4294967296 → IsPlain (number n)
plain_number n few =
    let wide : n < 2 ^ 64 = omega arith in
    let long : length (decimal n) ≤ 10 = length-decimal-le 10 n (omega arith) (omega arith) wide in
    record {
      short = short_word (decimal n) (decimal_nonempty n wide) (decimal_no_blank n wide) (omega (arith, long));
      writes = layout_number-decimal n few;
    }

-- ---- cells

signed_short : (z : ℤ) → IsWithin z 2147483647 → IsShortWord (signed_decimal z)
signed_short (pos n) within =
    let few : n ≤ 2147483647 = omega (arith, ints, within.high) in
    let wide : n < 2 ^ 64 = omega arith in
    let long : length (decimal n) ≤ 10 = length-decimal-le 10 n (omega arith) (omega arith) wide in
    short_word (decimal n) (decimal_nonempty n wide) (decimal_no_blank n wide) (omega (arith, long))
signed_short (negsuc n) within =
    let few : suc n ≤ 2147483647 = omega (arith, ints, within.low) in
    let wide : suc n < 2 ^ 64 = omega arith in
    let long : length (decimal (suc n)) ≤ 10 = length-decimal-le 10 (suc n) (omega arith) (omega arith) wide in
    short_word (45 ∷ decimal (suc n)) (omega arith) (decimal_no_blank (suc n) wide) (omega (arith, long))

low_of : (n : ℕ) → negsuc 2147483647 ≤ℤ negsuc n → (n < 2147483647) ⊎ (2147483647 ≤ n) → (negsuc n ≡ negsuc 2147483647 → ⊥)
    → neg_ℤ (pos 2147483647) ≤ℤ negsuc n
low_of n fewest (inl below) other = omega (arith, ints, below)
low_of n fewest (inr above) other = absurd (other (ap negsuc (omega (arith, ints, fewest, above))))

within_low : (z : ℤ) → FitsSigned w32 z → (z ≡ negsuc 2147483647 → ⊥) → neg_ℤ (pos 2147483647) ≤ℤ z
within_low (pos n) bits other = omega (arith, ints)
within_low (negsuc n) bits other = low_of n (fewest_of_32_bits (negsuc n) bits) (cases_lt n 2147483647) other

within_from_bits : (z : ℤ) → FitsSigned w32 z → int_eq z (negsuc 2147483647) ≡ false → IsWithin z 2147483647
within_from_bits z bits other = record {
  low = within_low z bits (λ e. true≢false (sym ((Decides-int_eq z (negsuc 2147483647)).1 e) ∙ other));
  high = most_of_32_bits z bits;
}

plain_empty : (c : Cell) → c.0 ≡ negsuc 2147483647 → cell_of (codes ".") ≡ Some c
unfolding cell_of
plain_empty c e = ap (λ z. Some (stored z)) (sym e)

plain_cell : (c : Cell) → FitsSigned w32 c.0 → IsPlain (cell c)
plain_cell c bits = by (int_eq c.0 (negsuc 2147483647)) refl
  where
    by : (empty : Bool) → int_eq c.0 (negsuc 2147483647) ≡ empty → IsPlain (cell c)
    by true e =
        let is : plain_word (cell c) ≡ codes "." = ap (λ b. option_map_or signed_decimal (cond b None (Some c.0)) (codes ".")) e in
        record {
          short = subst IsShortWord (sym is) (short_word (codes ".") (omega arith) refl (omega arith));
          writes = ap cell_of is ∙ plain_empty c ((Decides-int_eq c.0 (negsuc 2147483647)).0 e);
        }
    by false e =
        let is : plain_word (cell c) ≡ signed_decimal c.0 = ap (λ b. option_map_or signed_decimal (cond b None (Some c.0)) (codes ".")) e in
        let within = within_from_bits c.0 bits e in
        record {
          short = subst IsShortWord (sym is) (signed_short c.0 within);
          writes = ap cell_of is ∙ cell_of-decimal c.0 within;
        }

pub plain : (item : Item) → Fits item → IsPlain item
plain (keyword name) short = record { short = short; writes = refl }
plain (number n) few = plain_number n few
plain (cell c) bits = plain_cell c bits
