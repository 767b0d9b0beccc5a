-- A command as the program holds it, and the command of the definitions that it stands for.
-- Used by `read_words` and by what runs a command.
use Rattle.command_words.specs.Asked as asked
use Rattle.command_words.specs.declared.command.Command.{Command}
use Rattle.command_words.specs.declared.command.Command.TheVariants.{Solo, Verify, Pack, Info, Search}

-- the command with the same texts and numbers
abbrev pub command_of : Command → asked.Command
command_of (Solo array query) = asked.solo array.now query.now
command_of (Verify array query) = asked.verify array.now query.now
command_of (Pack text array) = asked.pack text.now array.now
command_of (Info array) = asked.info array.now
command_of (Search array query solvers validators frames strips summary) =
    asked.search array.now query.now solvers validators frames strips summary
