-- The words of `search ARRAY QUERY [--solvers N] [--validators N] [--frames N] [--strips N] [--summary]`.
use Rattle.std.specs.Prelude.{ℕ, ◌≤◌, List, [], ◌∷◌, Option, option_map, codes}
use Rattle.clap.specs.Words.{App, Row, Text}
use Rattle.command_words.specs.Asked.{Command, search}
use Rattle.command_words.specs.Parameters.{Parameter, text, number, flag}
use Rattle.command_words.specs.Rules.{app_by}
use Rattle.command_words.specs.Rows.{rows_in, text_with_id, number_with_id, flag_with_id}
use Rattle.command_words.specs.Texts.{Given, text_given, number_given, flag_given}

abbrev pub search_parameters : List Parameter
search_parameters =
    text (codes "array")
    ∷ text (codes "query")
    ∷ number (codes "solvers") 1 16 (codes "2")
    ∷ number (codes "validators") 0 16 (codes "1")
    ∷ number (codes "frames") 1 256 (codes "16")
    ∷ number (codes "strips") 1 4096 (codes "1")
    ∷ flag (codes "summary")
    ∷ []

-- the rules of its words
abbrev pub search_app : App
search_app = app_by (codes "search") search_parameters

-- the command of what `clap` finds
abbrev pub search_by : List Row → Command
search_by rows =
    search (text_with_id (codes "array") rows) (text_with_id (codes "query") rows)
    (number_with_id (codes "solvers") rows) (number_with_id (codes "validators") rows)
    (number_with_id (codes "frames") rows) (number_with_id (codes "strips") rows)
    (flag_with_id (codes "summary") rows)

-- the command that the words after its name ask for
abbrev pub search_in : List Text → Option Command
search_in words = option_map search_by (rows_in search_app words)

-- the command of what the words give
abbrev pub search_of : List Given → Command
search_of given =
    search (text_given (codes "array") given) (text_given (codes "query") given)
    (number_given (codes "solvers") 2 given) (number_given (codes "validators") 1 given)
    (number_given (codes "frames") 16 given) (number_given (codes "strips") 1 given)
    (flag_given (codes "summary") given)

-- the limits of its numbers
pub record HasLimits (solvers validators frames strips : ℕ) : Type 0 where
  pub a_solver : 1 ≤ solvers
  pub most_solvers : solvers ≤ 16
  pub most_validators : validators ≤ 16
  pub a_frame : 1 ≤ frames
  pub most_frames : frames ≤ 256
  pub a_strip : 1 ≤ strips
  pub most_strips : strips ≤ 4096
