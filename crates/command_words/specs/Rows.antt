-- What `clap` finds in words: rows, each with the id of a parameter and its values.
-- Used to say which command words name.
use Rattle.std.specs.Prelude.{ℕ, Bool, List, [], ◌∷◌, map, Option, Some, None, unwrap_or, codes}
use Rattle.std.specs.Str.{bytes_eq}
use Rattle.clap.specs.Words.{App, Kinds, Row, Text, fault_of, matches_of, first_of}
use Rattle.command_words.specs.Parameters.{Parameter, id_of, number_of}

-- the rows, if there is no kind of fault
abbrev pub unless_fault : Kinds → List Row → Option (List Row)
unless_fault [] rows = Some rows
unless_fault (kind ∷ kinds) rows = None

-- what `clap` finds in the words by these rules, if it finds no fault in them
abbrev pub rows_in : App → List Text → Option (List Row)
rows_in app words = unless_fault (fault_of app words) (matches_of app words)

-- the text with this id, which each required text has
abbrev pub text_with_id : Text → List Row → Text
text_with_id id rows = unwrap_or (first_of id rows) []

-- the flag with this id was given: its text is `true`
abbrev pub flag_with_id : Text → List Row → Bool
flag_with_id id rows = bytes_eq (text_with_id id rows) (codes "true")

-- the number with this id
abbrev pub number_with_id : Text → List Row → ℕ
number_with_id id rows = number_of (text_with_id id rows)

-- the text of each parameter, in their order
abbrev pub texts_found : List Parameter → List Row → List Text
texts_found ps rows = map (λ p. text_with_id (id_of p) rows) ps
