-- The words of bytes that begin with a word.
-- Used by the proofs of `PlainTexts`, `a_word_goes_up_to_a_blank` and `a_word_goes_up_to_the_end`.
use Rattle.std.proofs.Common.{◌≡◌, ℕ, true, false, cond, List, [], ◌∷◌, ◌++◌, All, refl, ap, ◌∙◌, sym, append-nil}
use Rattle.std.proofs.lemmas.List.Elements.{All-head, All-tail}
use Rattle.array_text.specs.Words.{is_blank, is_some_word, words, first_word, after_word, IsWord}
use Rattle.array_text.proofs.FirstWords.{words-blank, words-word, words-none}

abbrev NoBlank : ℕ → Type 0
NoBlank b = is_blank b ≡ false

-- ---- what begins with a word

first_word-append : (w more : List ℕ) → All (λ b. is_blank b ≡ false) w → first_word (w ++ more) ≡ w ++ first_word more
first_word-append [] more all = refl
first_word-append (b ∷ w) more all =
    ap (λ p. cond p [] (b ∷ first_word (w ++ more))) (All-head NoBlank b w all)
    ∙ ap (λ l. b ∷ l) (first_word-append w more (All-tail NoBlank b w all))

after_word-append : (w more : List ℕ) → All (λ b. is_blank b ≡ false) w → after_word (w ++ more) ≡ after_word more
after_word-append [] more all = refl
after_word-append (b ∷ w) more all =
    ap (λ p. cond p (b ∷ (w ++ more)) (after_word (w ++ more))) (All-head NoBlank b w all)
    ∙ after_word-append w more (All-tail NoBlank b w all)

words-append : (w more : List ℕ) → is_some_word w ≡ true → All (λ b. is_blank b ≡ false) w → first_word more ≡ [] → words (w ++ more) ≡ w ∷ words (after_word more)
words-append [] more some all ends = cc
words-append (b ∷ w) more some all ends =
    words-word b (w ++ more) (All-head NoBlank b w all)
    ∙ ap (λ l. l ∷ words (after_word ((b ∷ w) ++ more))) (first_word-append (b ∷ w) more all ∙ ap (λ l. (b ∷ w) ++ l) ends ∙ append-nil (b ∷ w))
    ∙ ap (λ l. (b ∷ w) ∷ words l) (after_word-append (b ∷ w) more all)

-- ---- the laws

pub words-up_to_a_blank : (w : List ℕ) (b : ℕ) (bytes : List ℕ) → IsWord w → is_blank b ≡ true → words (w ++ b ∷ bytes) ≡ w ∷ words bytes
words-up_to_a_blank w b bytes is blank =
    words-append w (b ∷ bytes) is.some is.no_blank (ap (λ p. cond p [] (b ∷ first_word bytes)) blank)
    ∙ ap (λ l. w ∷ words l) (ap (λ p. cond p (b ∷ bytes) (after_word bytes)) blank)
    ∙ ap (λ l. w ∷ l) (words-blank b bytes blank)

pub words-up_to_the_end : (w : List ℕ) → IsWord w → words w ≡ w ∷ []
words-up_to_the_end w is = ap words (sym (append-nil w)) ∙ words-append w [] is.some is.no_blank refl ∙ ap (λ l. w ∷ l) words-none
