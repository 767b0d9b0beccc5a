-- The words of `verify ARRAY QUERY`.
use Rattle.std.specs.Prelude.{List, [], ◌∷◌, Option, option_map, codes}
use Rattle.clap.specs.Words.{App, Row, Text}
use Rattle.command_words.specs.Asked.{Command, verify}
use Rattle.command_words.specs.Parameters.{Parameter, text}
use Rattle.command_words.specs.Rules.{app_by}
use Rattle.command_words.specs.Rows.{rows_in, text_with_id}
use Rattle.command_words.specs.Texts.{Given, text_given}

abbrev pub verify_parameters : List Parameter
verify_parameters = text (codes "array") ∷ text (codes "query") ∷ []

-- the rules of its words
abbrev pub verify_app : App
verify_app = app_by (codes "verify") verify_parameters

-- the command of what `clap` finds
abbrev pub verify_by : List Row → Command
verify_by rows = verify (text_with_id (codes "array") rows) (text_with_id (codes "query") rows)

-- the command that the words after its name ask for
abbrev pub verify_in : List Text → Option Command
verify_in words = option_map verify_by (rows_in verify_app words)

-- the command of what the words give
abbrev pub verify_of : List Given → Command
verify_of given = verify (text_given (codes "array") given) (text_given (codes "query") given)
