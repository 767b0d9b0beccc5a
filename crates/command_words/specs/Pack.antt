-- The words of `pack TEXT ARRAY`.
use Rattle.std.specs.Prelude.{List, [], ◌∷◌, Option, option_map, codes}
use Rattle.clap.specs.Words.{App, Row, Text}
use Rattle.command_words.specs.Asked.{Command, pack}
use Rattle.command_words.specs.Parameters.{Parameter, text}
use Rattle.command_words.specs.Rules.{app_by}
use Rattle.command_words.specs.Rows.{rows_in, text_with_id}
use Rattle.command_words.specs.Texts.{Given, text_given}

abbrev pub pack_parameters : List Parameter
pack_parameters = text (codes "text") ∷ text (codes "array") ∷ []

-- the rules of its words
abbrev pub pack_app : App
pack_app = app_by (codes "pack") pack_parameters

-- the command of what `clap` finds
abbrev pub pack_by : List Row → Command
pack_by rows = pack (text_with_id (codes "text") rows) (text_with_id (codes "array") rows)

-- the command that the words after its name ask for
abbrev pub pack_in : List Text → Option Command
pack_in words = option_map pack_by (rows_in pack_app words)

-- the command of what the words give
abbrev pub pack_of : List Given → Command
pack_of given = pack (text_given (codes "text") given) (text_given (codes "array") given)
