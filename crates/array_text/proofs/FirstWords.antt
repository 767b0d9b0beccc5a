-- The first word of bytes, and the words after it.
-- Used by the proofs of `Digits`, `WordLaws`, `a_blank_adds_no_word`, `leading_digits` and others.
use Rattle.std.proofs.Common.{◌≡◌, ℕ, suc, ◌+◌, ◌-◌, ◌<◌, Bool, true, false, cond, List, [], ◌∷◌, length, get_or, take, drop, filter, refl, ap, ◌∙◌, sym, arith, length-drop}
use Rattle.std.proofs.lemmas.List.{take_all}
use Rattle.std.specs.List.{slice_split, onto_first}
use Rattle.std.proofs.Math.Seq.{drop-cons, drop-length}
use Rattle.array_text.specs.Words.{is_blank, is_some_word, words, first_word, after_word, words_at}

-- the bytes from a place on
pub drop_at : (bs : List ℕ) (i : ℕ) → i < length bs → drop i bs ≡ get_or bs i 0 ∷ drop (i + 1) bs
drop_at bs i h = let e : suc i ≡ i + 1 = omega arith in drop-cons bs i 0 h ∙ ap (λ k. get_or bs i 0 ∷ drop k bs) e

-- all bytes from a place on
pub take-rest : (bs : List ℕ) (i : ℕ) → take (length bs - i) (drop i bs) ≡ drop i bs
take-rest bs i = take_all (length bs - i) (drop i bs) (omega (arith, length-drop i bs))

-- ---- the first word

-- at a blank the first word ends
pub first_word-blank : (bs : List ℕ) (i : ℕ) → i < length bs → is_blank (get_or bs i 0) ≡ true → first_word (drop i bs) ≡ []
first_word-blank bs i h blank = ap first_word (drop_at bs i h) ∙ ap (λ b. cond b [] (get_or bs i 0 ∷ first_word (drop (i + 1) bs))) blank

-- at another byte it goes on
pub first_word-more : (bs : List ℕ) (i : ℕ) → i < length bs → is_blank (get_or bs i 0) ≡ false → first_word (drop i bs) ≡ get_or bs i 0 ∷ first_word (drop (i + 1) bs)
first_word-more bs i h blank = ap first_word (drop_at bs i h) ∙ ap (λ b. cond b [] (get_or bs i 0 ∷ first_word (drop (i + 1) bs))) blank

pub after_word-blank : (bs : List ℕ) (i : ℕ) → i < length bs → is_blank (get_or bs i 0) ≡ true → after_word (drop i bs) ≡ drop i bs
after_word-blank bs i h blank =
    ap after_word (drop_at bs i h)
    ∙ ap (λ b. cond b (get_or bs i 0 ∷ drop (i + 1) bs) (after_word (drop (i + 1) bs))) blank ∙ sym (drop_at bs i h)

pub after_word-more : (bs : List ℕ) (i : ℕ) → i < length bs → is_blank (get_or bs i 0) ≡ false → after_word (drop i bs) ≡ after_word (drop (i + 1) bs)
after_word-more bs i h blank =
    ap after_word (drop_at bs i h)
    ∙ ap (λ b. cond b (get_or bs i 0 ∷ drop (i + 1) bs) (after_word (drop (i + 1) bs))) blank

-- ---- words

-- a blank at the beginning changes no words
pub words-blank : (b : ℕ) (bs : List ℕ) → is_blank b ≡ true → words (b ∷ bs) ≡ words bs
unfolding words
words-blank b bs blank = ap (λ p. filter is_some_word (cond p ([] ∷ slice_split is_blank bs) (onto_first b (slice_split is_blank bs)))) blank

-- the pieces after the first one
abbrev later : List ℕ → List (List ℕ)
later [] = []
later (b ∷ bs) = cond (is_blank b) (slice_split is_blank bs) (later bs)

split_here : (b : ℕ) (p : Bool) (w : List ℕ) (ws parts : List (List ℕ)) → cond p ([] ∷ parts) ((b ∷ w) ∷ ws) ≡ cond p [] (b ∷ w) ∷ cond p parts ws
split_here b true w ws parts = refl
split_here b false w ws parts = refl

split_first : (bs : List ℕ) → slice_split is_blank bs ≡ first_word bs ∷ later bs
split_first [] = refl
split_first (b ∷ bs) =
    ap (λ parts. cond (is_blank b) ([] ∷ slice_split is_blank bs) (onto_first b parts)) (split_first bs)
    ∙ split_here b (is_blank b) (first_word bs) (later bs) (slice_split is_blank bs)

later_here : (b : ℕ) (bs : List ℕ) (p : Bool) → is_blank b ≡ p → filter is_some_word (later bs) ≡ words (after_word bs)
    → filter is_some_word (cond p (slice_split is_blank bs) (later bs)) ≡ words (cond p (b ∷ bs) (after_word bs))
unfolding words
later_here b bs true blank rest = sym (words-blank b bs blank)
later_here b bs false blank rest = rest

-- they are the words after the first one
later_words : (bs : List ℕ) → filter is_some_word (later bs) ≡ words (after_word bs)
unfolding words
later_words [] = refl
later_words (b ∷ bs) = later_here b bs (is_blank b) refl (later_words bs)

-- bytes that begin with another byte begin with a word
pub words-word : (b : ℕ) (bs : List ℕ) → is_blank b ≡ false → words (b ∷ bs) ≡ words_at (b ∷ bs)
unfolding words
words-word b bs blank =
    let word : first_word (b ∷ bs) ≡ b ∷ first_word bs = ap (λ p. cond p [] (b ∷ first_word bs)) blank in
    ap (filter is_some_word) (split_first (b ∷ bs))
    ∙ ap (λ w. filter is_some_word (w ∷ later (b ∷ bs))) word
    ∙ ap (λ ws. (b ∷ first_word bs) ∷ ws) (later_words (b ∷ bs))
    ∙ ap (λ w. w ∷ words (after_word (b ∷ bs))) (sym word)

pub words-skip : (bs : List ℕ) (i : ℕ) → i < length bs → is_blank (get_or bs i 0) ≡ true → words (drop i bs) ≡ words (drop (i + 1) bs)
words-skip bs i h blank = ap words (drop_at bs i h) ∙ words-blank (get_or bs i 0) (drop (i + 1) bs) blank

pub words-at : (bs : List ℕ) (i : ℕ) → i < length bs → is_blank (get_or bs i 0) ≡ false → words (drop i bs) ≡ words_at (drop i bs)
words-at bs i h blank = ap words (drop_at bs i h) ∙ words-word (get_or bs i 0) (drop (i + 1) bs) blank ∙ ap words_at (sym (drop_at bs i h))

-- nothing has no words
pub words-none : words [] ≡ []
unfolding words
words-none = refl

pub words-end : (bs : List ℕ) → words (drop (length bs) bs) ≡ words_at (drop (length bs) bs)
words-end bs = ap words (drop-length bs) ∙ words-none ∙ ap words_at (sym (drop-length bs))
