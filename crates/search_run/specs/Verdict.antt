-- What the words and the files determine: the verdict, the whole output, the file that is made, and the names that are opened.
-- Used by the top call, for the words as the program has them. A name that begins with `told` is of files that are told.
use Rattle.std.specs.Prelude.{ℕ, List, Option, String, Bool}
use Rattle.std.specs.Global.{Global}
use Rattle.source_io.specs.Files.{Files}
use Rattle.command_words.specs.Words.{bytes_of_words}
use Rattle.report.specs.declared.ending.Ending.{Ending}
use Rattle.search_run.specs.Reads.{Parts}
use Rattle.search_run.specs.Meaning.{Meaning, told_verdict_of, told_output_of, told_file_of}
use Rattle.search_run.specs.Meanings.{meaning_in, done_for}

-- what the words ask for
abbrev pub asked_by : List (String Global) → Meaning
asked_by words = done_for (meaning_in (bytes_of_words words))

-- how a run with these words ends, if nothing fails. A name that no file has is taken as a file with no bytes here. A
-- shelf does not open it: that is a fault, so no run ends with this verdict
abbrev pub told_verdict : Option Files → List (String Global) → Option Ending
told_verdict held words = told_verdict_of held (asked_by words)

-- what is printed if nothing fails
abbrev pub told_output : Option Files → List (String Global) → Option (List ℕ)
told_output held words = told_output_of held (asked_by words)

-- the name and the bytes of the file that is made if nothing fails; `None` if none is made
abbrev pub told_file : Option Files → List (String Global) → Option (Option (List ℕ × List ℕ))
told_file held words = told_file_of held (asked_by words)

-- whether a file is made
abbrev pub makes_file : List (String Global) → Bool
makes_file words = (asked_by words).makes_file

-- which parts of which files are read
abbrev pub reads : List (String Global) → Files → List (List ℕ × Parts)
reads words = (asked_by words).reads

-- which names are opened or created, in order
abbrev pub openings : List (String Global) → List (List ℕ)
openings words = (asked_by words).openings
