-- The words of `info ARRAY`.
use Rattle.std.specs.Prelude.{List, [], ◌∷◌, Option, option_map, codes}
use Rattle.clap.specs.Words.{App, Row, Text}
use Rattle.command_words.specs.Asked.{Command, info}
use Rattle.command_words.specs.Parameters.{Parameter, text}
use Rattle.command_words.specs.Rules.{app_by}
use Rattle.command_words.specs.Rows.{rows_in, text_with_id}
use Rattle.command_words.specs.Texts.{Given, text_given}

abbrev pub info_parameters : List Parameter
info_parameters = text (codes "array") ∷ []

-- the rules of its words
abbrev pub info_app : App
info_app = app_by (codes "info") info_parameters

-- the command of what `clap` finds
abbrev pub info_by : List Row → Command
info_by rows = info (text_with_id (codes "array") rows)

-- the command that the words after its name ask for
abbrev pub info_in : List Text → Option Command
info_in words = option_map info_by (rows_in info_app words)

-- the command of what the words give
abbrev pub info_of : List Given → Command
info_of given = info (text_given (codes "array") given)
