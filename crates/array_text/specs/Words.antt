-- The words of a text.
-- Used by `search_run`, and in this crate.
use Rattle.std.specs.Prelude.{◌≡◌, ℕ, ◌==◌, ◌||◌, Bool, true, false, List, [], ◌∷◌, filter, All, if◌then◌else◌}
use Rattle.std.specs.List.{slice_split}

-- a space, a tab, a carriage return or a newline
abbrev pub is_blank : ℕ → Bool
is_blank b = b == 32 || b == 9 || b == 13 || b == 10

-- it has a byte
abbrev pub is_some_word : List ℕ → Bool
is_some_word [] = false
is_some_word (b ∷ bs) = true

-- it has at least one byte, and no blank
pub record IsWord (w : List ℕ) : Type 0 where
  pub some : is_some_word w ≡ true
  pub no_blank : All (λ b. is_blank b ≡ false) w

-- the longest runs of bytes that are not blanks: the pieces between blanks, if they are not empty
unfoldable pub words : List ℕ → List (List ℕ)
words bytes = filter is_some_word (slice_split is_blank bytes)

-- ---- the first word of bytes, as a reader finds it

-- the bytes before the first blank
abbrev pub first_word : List ℕ → List ℕ
first_word [] = []
first_word (b ∷ bs) = if is_blank b then [] else b ∷ first_word bs

-- the bytes from the first blank on
abbrev pub after_word : List ℕ → List ℕ
after_word [] = []
after_word (b ∷ bs) = if is_blank b then b ∷ bs else after_word bs

-- the words of bytes that begin with a word, or of no bytes
abbrev pub words_at : List ℕ → List (List ℕ)
words_at [] = []
words_at (b ∷ bs) = first_word (b ∷ bs) ∷ words (after_word (b ∷ bs))
