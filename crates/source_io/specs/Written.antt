-- What a call that writes does to the bytes that its sink took.
-- Used by everything that writes to a sink: array files, solutions and the lines of `info`.
use Rattle.std.specs.Prelude.{◌≡◌, ℕ, List, Option, Result, MatchResult}
use Rattle.lists.specs.Appending.{appended, AppendsPrefix}

-- at `Ok` all these bytes were appended, and at an error a prefix of them
abbrev pub Writes : {T E : Type 0} → Result T E → List ℕ → Option (List ℕ) → Option (List ℕ) → Type 0
Writes r bytes old new = MatchResult r (λ _. new ≡ appended old bytes) (λ _. AppendsPrefix old bytes new)
