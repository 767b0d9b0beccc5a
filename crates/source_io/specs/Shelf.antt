-- What a shelf shows at one moment, and what a call leaves as it was.
-- Used by shelves, and by what is said of commands that run on one.
use Rattle.std.specs.Prelude.{◌≡◌, ℕ, ◌⊎◌, List, Option}
use Rattle.source_io.specs.Told.{Rose}
use Rattle.source_io.specs.Asked.{Read}
use Rattle.source_io.specs.Files.{Files}

-- what a shelf shows at one moment
pub record ShelfState : Type 0 where
  -- the files by their names, if they are told
  pub holds : Option Files
  -- how many openings and creatings failed
  pub faults : ℕ
  -- how many reads of the sources that were handed back failed
  pub source_faults : ℕ
  -- how many writes to the finished files failed
  pub sink_faults : ℕ
  -- each recorded read of the sources that were handed back, with the name, if they are told
  pub asked : Option (List Read)
  -- the names that were opened or created, in order, also those where it failed, if they are told
  pub opened : Option (List (List ℕ))
  -- how many sources are lent and not handed back
  pub lent : ℕ
  -- the name of the file that was created and is not finished
  pub making : Option (List ℕ)

-- ---- what a call leaves as it was

-- no name was opened or created: the names are the same, and so is the count of those where it failed
pub record OpensNothing (old new : ShelfState) : Type 0 where
  pub opened : new.opened ≡ old.opened
  pub faults : new.faults ≡ old.faults

-- no source was handed back: the record of reads is the same, and so is the count of those that failed
pub record TakesNothingBack (old new : ShelfState) : Type 0 where
  pub asked : new.asked ≡ old.asked
  pub source_faults : new.source_faults ≡ old.source_faults

-- no file was finished: the files are the same, and so is the count of the writes that failed
pub record FinishesNothing (old new : ShelfState) : Type 0 where
  pub holds : new.holds ≡ old.holds
  pub sink_faults : new.sink_faults ≡ old.sink_faults

-- ---- what failed, and what did not

-- an opening, a creating or a read failed: one of the two counts rose
abbrev pub ReadsFailed : ShelfState → ShelfState → Type 0
ReadsFailed old new = Rose old.faults new.faults ⊎ Rose old.source_faults new.source_faults

-- a write to a file failed: the count of those rose
abbrev pub WritesFailed : ShelfState → ShelfState → Type 0
WritesFailed old new = Rose old.sink_faults new.sink_faults

-- no opening, no creating and no read failed: the two counts are the same
abbrev pub SameReadFaults : ShelfState → ShelfState → Type 0
SameReadFaults old new = (new.faults ≡ old.faults) × (new.source_faults ≡ old.source_faults)

-- no write to a file failed: the count of those is the same
abbrev pub SameWriteFaults : ShelfState → ShelfState → Type 0
SameWriteFaults old new = new.sink_faults ≡ old.sink_faults
