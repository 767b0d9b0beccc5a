-- What the first word is as a number, and as a cell.
-- Used by the proofs of `WrittenNumbers`, `leading_cell`, `leading_empty`, `leading_negative` and `leading_number`.
use Rattle.std.proofs.Common.{◌≡◌, ◌≢◌, ℕ, ◌<◌, ◌≤◌, ◌&&◌, nat_le, Bool, true, false, cond, List, [], ◌∷◌, length, Option, Some, None, bytes_eq, refl, ap, ◌∙◌, sym, arith, pos, neg_ℤ, ◌-ℤ◌, to_z, of_z, w32}
use Rattle.std.specs.Option.{option_and_then, option_map}
use Rattle.std.proofs.lemmas.Bool.{lt-leb, le-leb, ne_eqb}
use Rattle.std.proofs.lemmas.Int.{ints}
use Rattle.cells.specs.Cells.{empty_cell}
use Rattle.array_text.specs.Numbers.{digits_from, number_written, up_to, number_up_to, cell_number, stored, positive_cell, negative_cell, number_cell, cell_of}
use Rattle.array_text.specs.Words.{is_blank, first_word, after_word}
use Rattle.array_text.specs.Reads.{leading}
use Rattle.array_text.proofs.Digits.{number_written-other}

-- ---- any form

pub leading-none : {X : Type 0} (form : List ℕ → Option X) (bs : List ℕ) → form (first_word bs) ≡ None → None ≡ leading form bs
leading-none form bs e = sym (ap (option_map (λ x. (x, after_word bs))) e)

pub leading-some : {X : Type 0} (form : List ℕ → Option X) (bs : List ℕ) (x : X) → form (first_word bs) ≡ Some x → Some (x, after_word bs) ≡ leading form bs
leading-some form bs x e = sym (ap (option_map (λ x. (x, after_word bs))) e)

-- ---- numbers

number_written-none : (w : List ℕ) → length w ≡ 0 → number_written w ≡ None
unfolding number_written
number_written-none w none = ap (λ p. cond (p && nat_le (length w) 10) (digits_from 0 w) None) (lt-leb 1 (length w) (omega arith))

number_written-some : (w : List ℕ) (n : ℕ) → 1 ≤ length w → length w ≤ 10 → digits_from 0 w ≡ Some n → number_written w ≡ Some n
unfolding number_written
number_written-some w n some few e =
    ap (λ p. cond (p && nat_le (length w) 10) (digits_from 0 w) None) (le-leb 1 (length w) some)
    ∙ ap (λ p. cond p (digits_from 0 w) None) (le-leb (length w) 10 few) ∙ e

-- no digit writes no number
pub number_up_to-none : (most : ℕ) (w : List ℕ) → length w ≡ 0 → number_up_to most w ≡ None
number_up_to-none most w none = ap (option_and_then (up_to most)) (number_written-none w none)

pub number_up_to-other : (most : ℕ) (w : List ℕ) → number_written w ≡ None → number_up_to most w ≡ None
number_up_to-other most w none = ap (option_and_then (up_to most)) none

pub number_up_to-above : (most : ℕ) (w : List ℕ) (n : ℕ) → 1 ≤ length w → length w ≤ 10 → digits_from 0 w ≡ Some n → most < n → number_up_to most w ≡ None
number_up_to-above most w n some few e above =
    ap (option_and_then (up_to most)) (number_written-some w n some few e) ∙ ap (λ p. cond p (Some n) None) (lt-leb n most above)

pub number_up_to-some : (most : ℕ) (w : List ℕ) (n : ℕ) → 1 ≤ length w → length w ≤ 10 → digits_from 0 w ≡ Some n → n ≤ most → number_up_to most w ≡ Some n
number_up_to-some most w n some few e within =
    ap (option_and_then (up_to most)) (number_written-some w n some few e) ∙ ap (λ p. cond p (Some n) None) (le-leb n most within)

-- ---- cells

pub first_word-none : (bs : List ℕ) → length bs ≡ 0 → first_word bs ≡ []
first_word-none [] none = refl
first_word-none (b ∷ bs) none = absurd (omega arith)

pub after_word-none : (bs : List ℕ) → length bs ≡ 0 → after_word bs ≡ bs
after_word-none [] none = refl
after_word-none (b ∷ bs) none = absurd (omega arith)

-- if the word ends after the point, it is the empty cell
pub leading-empty : (bs : List ℕ) → first_word bs ≡ [] → after_word bs ≡ bs → Some (empty_cell, bs) ≡ leading cell_of (46 ∷ bs)
unfolding cell_of
leading-empty bs first after = ap (λ b. Some (empty_cell, b)) (sym after) ∙ leading-some cell_of (46 ∷ bs) empty_cell (ap (λ w. cell_of (46 ∷ w)) first)

no_digit : (w : List ℕ) → digits_from 0 (46 ∷ w) ≡ None
unfolding digits_from
no_digit w = refl

positive_cell-none : (w : List ℕ) → number_written w ≡ None → positive_cell w ≡ None
positive_cell-none w none = ap (option_map (λ n. stored (pos n))) (number_up_to-other 2147483647 w none)

point_and_more : (b : ℕ) (w : List ℕ) → cell_of (46 ∷ b ∷ w) ≡ None
unfolding cell_of
point_and_more b w = positive_cell-none (46 ∷ b ∷ w) (number_written-other (46 ∷ b ∷ w) (no_digit (b ∷ w)))

-- if it goes on, it is not a cell
pub leading-point : (b : ℕ) (bs rest : List ℕ) → rest ≡ b ∷ bs → is_blank b ≡ false → None ≡ leading cell_of (46 ∷ rest)
leading-point b bs rest is blank =
    let first : first_word rest ≡ b ∷ first_word bs = ap first_word is ∙ ap (λ p. cond p [] (b ∷ first_word bs)) blank in
    leading-none cell_of (46 ∷ rest) (ap (λ w. cell_of (46 ∷ w)) first ∙ point_and_more b (first_word bs))

pub first_word-ends : (b : ℕ) (bs rest : List ℕ) → rest ≡ b ∷ bs → is_blank b ≡ true → first_word rest ≡ []
first_word-ends b bs rest is blank = ap first_word is ∙ ap (λ p. cond p [] (b ∷ first_word bs)) blank

pub after_word-ends : (b : ℕ) (bs rest : List ℕ) → rest ≡ b ∷ bs → is_blank b ≡ true → after_word rest ≡ rest
after_word-ends b bs rest is blank = ap after_word is ∙ ap (λ p. cond p (b ∷ bs) (after_word bs)) blank ∙ sym is

-- a form that goes on from what another one gives
abbrev both : {X Y : Type 0} → (X → Y) → X × List ℕ → Y × List ℕ
both f p = (f p.0, p.1)

mapped : {X Y : Type 0} (f : X → Y) (o : Option X) (b : List ℕ) → option_map {U = Y × List ℕ} (λ y. (y, b)) (option_map f o) ≡ option_map (both f) (option_map {U = X × List ℕ} (λ x. (x, b)) o)
mapped f None b = refl
mapped f (Some x) b = refl

leading-below : (bs : List ℕ) → leading cell_of (45 ∷ bs) ≡ option_map (both (λ n. stored (neg_ℤ (pos n)))) (leading (number_up_to 2147483647) bs)
unfolding cell_of
leading-below bs = mapped (λ n. stored (neg_ℤ (pos n))) (cell_number (first_word bs)) (after_word bs)

pub leading-below-none : (bs : List ℕ) → None ≡ leading (number_up_to 2147483647) bs → None ≡ leading cell_of (45 ∷ bs)
leading-below-none bs e = ap (option_map (both (λ n. stored (neg_ℤ (pos n))))) e ∙ sym (leading-below bs)

pub leading-below-some : (bs after : List ℕ) (n : ℕ) → Some (n, after) ≡ leading (number_up_to 2147483647) bs → Some (stored (neg_ℤ (pos n)), after) ≡ leading cell_of (45 ∷ bs)
leading-below-some bs after n e = ap (option_map (both (λ n. stored (neg_ℤ (pos n))))) e ∙ sym (leading-below bs)

-- the number that the program stores
pub negated : (n : ℕ) → n ≤ 2147483647 → to_z w32 (of_z w32 (pos 0 -ℤ to_z w32 n)) ≡ neg_ℤ (pos n)
negated n few = omega (arith, ints)

no_word : cell_of [] ≡ None
unfolding cell_of
no_word = refl

pub leading-nothing : (bs : List ℕ) → length bs ≡ 0 → None ≡ leading cell_of bs
leading-nothing bs none = leading-none cell_of bs (ap cell_of (first_word-none bs none) ∙ no_word)

-- a word that begins otherwise is a cell by its digits alone
pub positive_word : (b : ℕ) (w : List ℕ) → b ≢ 46 → b ≢ 45 → cell_of (b ∷ w) ≡ positive_cell (b ∷ w)
unfolding cell_of
positive_word b w point minus =
    ap (λ p. cond (p && bytes_eq w []) (Some empty_cell) (number_cell (b ∷ w))) (ne_eqb b 46 point)
    ∙ ap (λ p. cond p (negative_cell w) (positive_cell (b ∷ w))) (ne_eqb b 45 minus)

cell_of-positive : (b : ℕ) (w : List ℕ) (p : Bool) → b ≢ 46 → b ≢ 45 → cell_of (cond p [] (b ∷ w)) ≡ positive_cell (cond p [] (b ∷ w))
cell_of-positive b w true point minus = no_word ∙ sym (positive_cell-none [] (number_written-none [] refl))
cell_of-positive b w false point minus = positive_word b w point minus

pub leading-positive : (b : ℕ) (bs bytes : List ℕ) → bytes ≡ b ∷ bs → b ≢ 46 → b ≢ 45 → leading positive_cell bytes ≡ leading cell_of bytes
leading-positive b bs bytes is point minus =
    let same : cell_of (first_word bytes) ≡ positive_cell (first_word bytes) =
    ap (λ l. cell_of (first_word l)) is ∙ cell_of-positive b (first_word bs) (is_blank b) point minus ∙ ap (λ l. positive_cell (first_word l)) (sym is) in
    ap (option_map (λ x. (x, after_word bytes))) (sym same)
