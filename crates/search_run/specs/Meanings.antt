-- What each command means, and what words mean.
-- Used by the top call.
use Rattle.std.specs.Prelude.{List, Option, Some, None, option_and_then, unwrap_or}
use Rattle.clap.specs.Words.{Text}
use Rattle.command_words.specs.Words.{Command, solo, verify, pack, info, search, command_in}
use Rattle.search_run.specs.Meaning.{Meaning, refusing}
use Rattle.search_run.specs.Problem.{listing}
use Rattle.search_run.specs.Texts.{packing}
use Rattle.search_run.specs.Info.{describing}

-- what each command means; nothing if it is not built
abbrev pub meaning : Command → Option Meaning
meaning (solo array query) = Some (listing array query)
meaning (verify array query) = Some (listing array query)
meaning (pack text array) = Some (packing text array)
meaning (info array) = Some (describing array)
meaning (search array query solvers validators frames strips summary) = None

-- what words mean; nothing if they name no command that is built
abbrev pub meaning_in : List Text → Option Meaning
meaning_in words = option_and_then meaning (command_in words)

-- what is done for it; words that mean nothing are refused
abbrev pub done_for : Option Meaning → Meaning
done_for meant = unwrap_or meant refusing
