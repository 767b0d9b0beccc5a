-- What is appended to a list that may be unknown. An unknown list is `None`, and stays `None`.
-- Used for objects of the outside, which may tell nothing: what a sink took, and which names a shelf opened.
use Rattle.std.specs.Prelude.{◌≡◌, List, ◌++◌, Option, option_map}

-- a list with some items at its end, if the list is known
abbrev pub appended : {X : Type 0} → Option (List X) → List X → Option (List X)
appended old items = option_map (λ all. all ++ items) old

-- a list begins with the other: it is the other and then some rest
abbrev pub IsPrefixOf : {X : Type 0} → List X → List X → Type 0
IsPrefixOf {X} prefix all = (rest : List X) × (prefix ++ rest ≡ all)

-- a prefix of some items was appended, if the list is known
abbrev pub AppendsPrefix : {X : Type 0} → Option (List X) → List X → Option (List X) → Type 0
AppendsPrefix {X} old items new = (prefix : List X) × IsPrefixOf prefix items × (new ≡ appended old prefix)
