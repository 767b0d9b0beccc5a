-- How a run ends: its status, its output, the file that it makes, and its line on the error stream.
-- Used by each command and by the top call.
use Rattle.std.specs.Prelude.{◌≡◌, ◌≢◌, ℕ, List, Option, Some, None, MatchOption, ⊤, ◌⊎◌, ◌≤◌, Bool, true, false}
use Rattle.lists.specs.Appending.{appended, AppendsPrefix}
use Rattle.source_io.specs.Files.{Files, with_file, HasPrefix}
use Rattle.source_io.specs.Told.{Rose}
use Rattle.source_io.specs.Shelf.{ShelfState, ReadsFailed, SameReadFaults, SameWriteFaults, WritesFailed}
use Rattle.report.specs.Status.{status_of, message_of, Says}
use Rattle.report.specs.declared.ending.Failure.TheVariants.{NoMemory}
use Rattle.report.specs.declared.ending.Ending.{Ending}
use Rattle.report.specs.declared.ending.Ending.TheVariants.{Done, Refused, Failed}
use Rattle.search_run.specs.Reads.{AsksOf}
use Rattle.search_run.specs.Meaning.{Meaning, told_verdict_of, told_file_of}

-- an ending that is not a failure is the verdict, if it is told
abbrev pub EndsAs : Option Ending → Ending → Type 0
EndsAs told Done = MatchOption told ⊤ (λ verdict. verdict ≡ Done)
EndsAs told (Refused r) = MatchOption told ⊤ (λ verdict. verdict ≡ Refused r)
EndsAs told (Failed f) = ⊤

-- the command failed: it is neither done nor refused
abbrev pub IsFailed : Ending → Type 0
IsFailed ending = 5 ≤ status_of ending

-- the status is the verdict's, if it is told, or the status of a failure
abbrev pub IsStatus : Option Ending → ℕ → Type 0
IsStatus told status = MatchOption told ⊤ (λ verdict. (status ≡ status_of verdict) ⊎ (5 ≤ status))

-- the status is the verdict's, if it is told, or the status of `NoMemory`
abbrev pub IsStatusOrNoMemory : Option Ending → ℕ → Type 0
IsStatusOrNoMemory told status = MatchOption told ⊤ (λ verdict. (status ≡ status_of verdict) ⊎ (status ≡ status_of (Failed NoMemory)))

-- the whole output was appended, if it is told
abbrev pub PrintsWhole : Option (List ℕ) → Option (List ℕ) → Option (List ℕ) → Type 0
PrintsWhole told old new = MatchOption told ⊤ (λ bytes. new ≡ appended old bytes)

-- a prefix of the whole output was appended, if it is told
abbrev pub PrintsPrefix : Option (List ℕ) → Option (List ℕ) → Option (List ℕ) → Type 0
PrintsPrefix told old new = MatchOption told ⊤ (λ bytes. AppendsPrefix old bytes new)

-- the whole output was appended at `Done`, a prefix of it at a failure, and nothing at a refusal
abbrev pub Prints : Ending → Option (List ℕ) → Option (List ℕ) → Option (List ℕ) → Type 0
Prints Done told old new = PrintsWhole told old new
Prints (Refused r) told old new = new ≡ old
Prints (Failed f) told old new = PrintsPrefix told old new

-- the file that is made was added to the files under its name, and the others are the same, if all this is told
abbrev pub MakesFile : Option (Option (List ℕ × List ℕ)) → Option Files → Option Files → Type 0
MakesFile (Some (Some (name, bytes))) old new = new ≡ with_file old name bytes
MakesFile (Some None) old new = new ≡ old
MakesFile None old new = new ≡ old

-- the files are the same, or a prefix of the file that is made was added under its name, if all this is told
abbrev pub LeavesFile : Option (Option (List ℕ × List ℕ)) → Option Files → Option Files → Type 0
LeavesFile (Some (Some (name, bytes))) old new = (new ≡ old) ⊎ HasPrefix old name bytes new
LeavesFile (Some None) old new = new ≡ old
LeavesFile None old new = new ≡ old

-- a write failed: to the file and not to the output if the command makes a file, and otherwise to the output and to no
-- file. The numbers are the counts of the output's faults
abbrev pub WriteFails : Bool → ShelfState → ShelfState → ℕ → ℕ → Type 0
WriteFails true old new old_faults new_faults = WritesFailed old new × (new_faults ≡ old_faults)
WriteFails false old new old_faults new_faults = Rose old_faults new_faults × SameWriteFaults old new

-- a command that means this ended so, on a shelf
pub record RunsAs (m : Meaning) (ending : Ending) (old new : ShelfState) : Type 0 where
  -- the ending is the verdict, unless something failed
  pub verdict : EndsAs (told_verdict_of old.holds m) ending
  -- its file was made at `Done`, a prefix of it may be there if a write failed, and otherwise no file changed
  pub made : ending ≡ Done → MakesFile (told_file_of old.holds m) old.holds new.holds
  pub left : LeavesFile (told_file_of old.holds m) old.holds new.holds
  pub unmade : ending ≢ Done → status_of ending ≢ 6 → new.holds ≡ old.holds
  -- a read fault has its cause
  pub read_fault : status_of ending ≡ 5 → ReadsFailed old new
  -- a fault that the status does not name did not come
  pub no_read_fault : status_of ending ≢ 5 → SameReadFaults old new
  pub no_write_fault : status_of ending ≢ 6 → SameWriteFaults old new
  -- it read no more than its parts of its files
  pub asked : AsksOf m.reads old.holds old.asked new.asked
  -- it opened or created its names in order, all of them at `Done`, and handed everything back
  pub opened : AppendsPrefix old.opened m.openings new.opened
  pub all_opened : ending ≡ Done → new.opened ≡ appended old.opened m.openings
  pub lent : new.lent ≡ old.lent
  pub making : new.making ≡ old.making

-- the line of an ending with this status was written. The ending is the verdict, if it is told and nothing failed
abbrev pub SaysEnding : Option Ending → ℕ → Type 0 → Option (List ℕ) → Option (List ℕ) → Type 0
SaysEnding told status fact old new = (ending : Ending) × (status ≡ status_of ending) × EndsAs told ending × Says (message_of ending) fact old new
