-- One rule before others.
-- Used by the proofs of `Headers`.
use Rattle.std.proofs.Common.{◌≡◌, Bool, true, false, List, ◌∷◌, Some, refl}
use Rattle.lists.specs.Rules.{Rule, first_broken}
use Rattle.array_file.specs.declared.refusal.FileRefusal.{FileRefusal}

-- a rule that is kept leaves it to the others
pub one-kept : (b : Bool) (r : FileRefusal) (others : List (Rule FileRefusal)) → b ≡ true → first_broken ((b, r) ∷ others) ≡ first_broken others
one-kept true r others e = refl
one-kept false r others e = absurd (cc)

-- a rule that is broken is the first
pub one-broken : (b : Bool) (r : FileRefusal) (others : List (Rule FileRefusal)) → b ≡ false → first_broken ((b, r) ∷ others) ≡ Some r
one-broken true r others e = absurd (cc)
one-broken false r others e = refl
