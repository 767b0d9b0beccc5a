-- The rules by which `clap` reads the words after a command's name.
-- Used to say which command words name.
use Rattle.std.specs.Prelude.{ℕ, true, Some, List, [], ◌∷◌, map}
use Rattle.clap.specs.Words.{App, Rule, Text, new_app, new_rule}
use Rattle.clap.specs.declared.builder.action.ArgAction.TheVariants.{Set, SetTrue}
use Rattle.clap.specs.declared.builder.value_parser.ValueParser.TheVariants.{Unsigned}
use Rattle.command_words.specs.Parameters as parameters
use Rattle.command_words.specs.Parameters.{Parameter}

-- a text that has to be given, by its place alone
abbrev pub text_rule : Text → Rule
text_rule id = record (new_rule id) { required = true; action = Some Set }

-- a number that has to be given, by its place alone
abbrev pub positional_number_rule : Text → ℕ → ℕ → Rule
positional_number_rule id low high = record (new_rule id) { required = true; action = Some Set; parser = Some (Unsigned low high) }

-- an option without a value
abbrev pub flag_rule : Text → Rule
flag_rule id = record (new_rule id) { long = Some id; action = Some SetTrue }

-- an option with a number. If it is left out, the number is the default
abbrev pub number_rule : Text → ℕ → ℕ → Text → Rule
number_rule id low high default =
    record (new_rule id) { long = Some id; action = Some Set; parser = Some (Unsigned low high); defaults = default ∷ [] }

-- an option with a number, which has to be given
abbrev pub required_number_rule : Text → ℕ → ℕ → Rule
required_number_rule id low high =
    record (new_rule id) { long = Some id; required = true; action = Some Set; parser = Some (Unsigned low high) }

-- the rule of a parameter
abbrev pub rule_by : Parameter → Rule
rule_by (parameters.text id) = text_rule id
rule_by (parameters.positional_number id low high) = positional_number_rule id low high
rule_by (parameters.flag id) = flag_rule id
rule_by (parameters.number id low high default) = number_rule id low high default
rule_by (parameters.required_number id low high) = required_number_rule id low high

-- a command that is given the words after its name, and has no flag for help
abbrev pub bare_app : Text → App
bare_app name =
    let a = new_app name in record a { top = record a.top { no_binary_name = true; disable_help_flag = true } }

-- a command with these parameters
abbrev pub app_by : Text → List Parameter → App
app_by name ps = let a = bare_app name in record a { top = record a.top { rules = map rule_by ps } }
