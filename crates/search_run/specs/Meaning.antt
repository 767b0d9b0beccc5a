-- What a command means: why it is refused, what it prints, which file it makes, and which names it opens.
-- Used by each command and by the top call. A name that begins with `told` is of files that are told.
use Rattle.std.specs.Prelude.{ℕ, List, [], Option, Some, None, option_map, Bool, false}
use Rattle.source_io.specs.Files.{Files}
use Rattle.report.specs.declared.ending.Refusal.{Refusal}
use Rattle.report.specs.declared.ending.Refusal.TheVariants.{Words}
use Rattle.report.specs.declared.ending.Ending.{Ending}
use Rattle.report.specs.declared.ending.Ending.TheVariants.{Done, Refused}
use Rattle.search_run.specs.Reads.{Parts}

-- what a command does if nothing fails
pub record Meaning : Type 0 where
  -- why it is refused on these files, if it is
  pub refusal : Files → Option Refusal
  -- what it prints
  pub output : Files → List ℕ
  -- whether it makes a file; if not, it writes to the output alone
  pub makes_file : Bool
  -- the name and the bytes of the file that it makes, if it makes one
  pub file : Files → Option (List ℕ × List ℕ)
  -- which parts of which files it reads, in the order in which the files are handed back
  pub reads : Files → List (List ℕ × Parts)
  -- which names it opens or creates, in order
  pub openings : List (List ℕ)

-- to refuse the words
abbrev pub refusing : Meaning
refusing =
    record {
      refusal = λ files. Some Words;
      output = λ files. [];
      makes_file = false;
      file = λ files. None;
      reads = λ files. [];
      openings = [];
    }

-- how a command ends with this refusal, or without one
abbrev pub verdict_of : Option Refusal → Ending
verdict_of None = Done
verdict_of (Some r) = Refused r

-- the verdict, the output and the file of what is done, if the files are told
abbrev pub told_verdict_of : Option Files → Meaning → Option Ending
told_verdict_of held m = option_map (λ files. verdict_of (m.refusal files)) held

abbrev pub told_output_of : Option Files → Meaning → Option (List ℕ)
told_output_of held m = option_map m.output held

abbrev pub told_file_of : Option Files → Meaning → Option (Option (List ℕ × List ℕ))
told_file_of held m = option_map m.file held
