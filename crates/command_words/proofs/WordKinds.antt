-- What a word is to `clap`'s walk: `--`, an option, or a text.
use Rattle.std.proofs.Common.{◌≡◌, ◌∙◌, ◌⊎◌, ℕ, Bool, true, false, suc, refl, sym, ap, subst, arith, List, [], ◌∷◌, length, Some, None, inl, inr, eqb}
use Rattle.std.specs.Prelude.{slice_get, nat_eq, codes}
use Rattle.std.specs.List.{starts_with}
use Rattle.std.specs.Str.{chars, IsUtf8}
use Rattle.std.proofs.lemmas.Str.{chars_past_char, encodes-chars}
use lib.Utf8.{encodes}
use borrow.Author.Tests.{ne_eqb, eqb-true, eqb-false}
use Rattle.clap.specs.Lexer.{long_of, short_of}
use Rattle.clap.specs.Words.{Text}
use Rattle.command_words.specs.Texts.{is_divider, is_option, name_in, value_in}

-- a word that is a text to the walk
abbrev pub IsPlain : Text → Type 0
IsPlain w = (is_divider w ≡ false) × (long_of w ≡ None) × (short_of w ≡ None)

-- what follows the dash of short options has a first character
abbrev pub IsBundle : Text → Type 0
IsBundle w = (y : ℕ) × (ys : Text) × (x : ℕ) × (short_of w ≡ Some (y ∷ ys)) × (slice_get (chars (y ∷ ys)) 0 ≡ Some x)

-- a word with the name of an option
abbrev pub IsLong : Text → Type 0
IsLong w = (long_of w ≡ Some (name_in w, value_in w)) × (starts_with nat_eq w (codes "--") ≡ true)

-- a word of short options
abbrev pub IsShort : Text → Type 0
IsShort w = (long_of w ≡ None) × (starts_with nat_eq w (codes "--") ≡ false) × IsBundle w

-- a word that is an option to the walk
abbrev pub IsFlag : Text → Type 0
IsFlag w = (is_divider w ≡ false) × (IsLong w ⊎ IsShort w)

abbrev pub Kind : Text → Type 0
Kind w = (w ≡ 45 ∷ 45 ∷ []) ⊎ (((is_option w ≡ false) × IsPlain w) ⊎ ((is_option w ≡ true) × IsFlag w))

first_of_chars : (cs : List ℕ) (y : ℕ) (ys : List ℕ) → encodes (45 ∷ cs) ≡ 45 ∷ y ∷ ys → (x : ℕ) × (slice_get cs 0 ≡ Some x)
unfolding lib.Utf8.encode
first_of_chars [] y ys e = let n : 1 ≡ suc (suc (length ys)) = ap length e in absurd (omega arith)
first_of_chars (c ∷ cs) y ys e = (c, refl)

first_char : (y : ℕ) (ys : List ℕ) → IsUtf8 (45 ∷ y ∷ ys) → (x : ℕ) × (slice_get (chars (y ∷ ys)) 0 ≡ Some x)
unfolding lib.Utf8.encode
first_char y ys u =
    first_of_chars (chars (y ∷ ys)) y ys
    (ap encodes (sym (chars_past_char (45 ∷ y ∷ ys) (y ∷ ys) 45 u refl)) ∙ encodes-chars (45 ∷ y ∷ ys) u)

-- after two dashes
kind_dashes : (zs : Text) → IsUtf8 (45 ∷ 45 ∷ zs) → Kind (45 ∷ 45 ∷ zs)
kind_dashes [] u = inl refl
kind_dashes (z ∷ zs) u = inr (inr (refl, (refl, inl (refl, refl))))

-- after a dash
kind_dash : (ys : Text) → IsUtf8 (45 ∷ ys) → Kind (45 ∷ ys)
kind_dash [] u = inr (inl (refl, (refl, refl, refl)))
kind_dash (y ∷ ys) u = go (eqb y 45) refl
  where
    go : (t : Bool) → eqb y 45 ≡ t → Kind (45 ∷ y ∷ ys)
    go true e = subst (λ k. IsUtf8 (45 ∷ k ∷ ys) → Kind (45 ∷ k ∷ ys)) (sym (eqb-true y 45 e)) (λ v. kind_dashes ys v) u
    go false e =
        let c = first_char y ys u in
        let turned : eqb 45 y ≡ false = ne_eqb 45 y (λ h. eqb-false y 45 e (sym h)) in
        inr (inr (rw e refl, (rw e refl, inr (rw e refl, rw turned refl, (y, ys, c.0, rw e refl, c.1)))))

pub kind : (w : Text) → IsUtf8 w → Kind w
kind [] u = inr (inl (refl, (refl, refl, refl)))
kind (x ∷ xs) u = go (eqb x 45) refl
  where
    go : (t : Bool) → eqb x 45 ≡ t → Kind (x ∷ xs)
    go true e = subst (λ k. IsUtf8 (k ∷ xs) → Kind (k ∷ xs)) (sym (eqb-true x 45 e)) (kind_dash xs) u
    go false e =
        let turned : eqb 45 x ≡ false = ne_eqb 45 x (λ h. eqb-false x 45 e (sym h)) in
        inr (inl (rw turned refl, (rw e refl, rw e refl, rw e refl)))
