-- A command as words ask for it.
-- Used by `read_words` and by the top call of `search_run`.
use Rattle.std.specs.Prelude.{ℕ, Bool}
use Rattle.clap.specs.Words.{Text}

-- a command with what the words after its name give
pub data Command : Type 0 where
  -- print the solutions of a query on an array
  solo : (array query : Text) → Command
  -- print the same solutions, always found by plain enumeration
  verify : (array query : Text) → Command
  -- make the array file of an array text
  pack : (text array : Text) → Command
  -- print what an array file holds
  info : (array : Text) → Command
  -- print the solutions of a query on an array, found by solvers and validators that work at once
  search : (array query : Text) (solvers validators frames strips : ℕ) (summary : Bool) → Command
