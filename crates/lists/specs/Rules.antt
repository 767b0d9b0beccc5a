-- Rules in their order, each with the refusal of what breaks it.
-- Used by `layouts`, `array_text` and `array_file`, and in this crate.
use Rattle.std.specs.Prelude.{◌≡◌, Bool, List, [], ◌∷◌, Option, Some, None, Result, Ok, Err, if◌then◌else◌}

-- a rule: whether it is kept, and the refusal if it is not
abbrev pub Rule : Type 0 → Type 0
Rule R = Bool × R

-- the refusal of the first rule that is broken
abbrev pub first_broken : {R : Type 0} → List (Rule R) → Option R
first_broken [] = None
first_broken (r ∷ rs) = if r.0 then first_broken rs else Some r.1

-- the answer to rules: `Ok` if they are kept, and otherwise the refusal of the first one that is broken
abbrev pub Judges : {A R : Type 0} → List (Rule R) → Result A R → Type 0
Judges rules (Ok x) = first_broken rules ≡ None
Judges rules (Err r) = first_broken rules ≡ Some r
