-- The words of `solo ARRAY QUERY`.
use Rattle.std.specs.Prelude.{List, [], ◌∷◌, Option, option_map, codes}
use Rattle.clap.specs.Words.{App, Row, Text}
use Rattle.command_words.specs.Asked.{Command, solo}
use Rattle.command_words.specs.Parameters.{Parameter, text}
use Rattle.command_words.specs.Rules.{app_by}
use Rattle.command_words.specs.Rows.{rows_in, text_with_id}
use Rattle.command_words.specs.Texts.{Given, text_given}

abbrev pub solo_parameters : List Parameter
solo_parameters = text (codes "array") ∷ text (codes "query") ∷ []

-- the rules of its words
abbrev pub solo_app : App
solo_app = app_by (codes "solo") solo_parameters

-- the command of what `clap` finds
abbrev pub solo_by : List Row → Command
solo_by rows = solo (text_with_id (codes "array") rows) (text_with_id (codes "query") rows)

-- the command that the words after its name ask for
abbrev pub solo_in : List Text → Option Command
solo_in words = option_map solo_by (rows_in solo_app words)

-- the command of what the words give
abbrev pub solo_of : List Given → Command
solo_of given = solo (text_given (codes "array") given) (text_given (codes "query") given)
