-- What stops a step of a command, and which stop each fault of a lower crate becomes.
-- Used by every function that loads or makes a file.
use Rattle.std.specs.Prelude.{◌≡◌, ◌≢◌, ◌⊎◌, ℕ, Result, MatchResult}
use Rattle.array_file.specs.declared.header.HeaderFault.{HeaderFault}
use Rattle.array_file.specs.declared.header.HeaderFault.TheVariants as header
use Rattle.array_text.specs.declared.fault.TextFault.{TextFault}
use Rattle.array_text.specs.declared.fault.TextRefusal.{TextRefusal}
use Rattle.array_text.specs.declared.fault.TextFault.TheVariants as text
use Rattle.chunk_store.specs.declared.array.CellsFault.{CellsFault}
use Rattle.chunk_store.specs.declared.array.CellsFault.TheVariants as cells
use Rattle.query_text.specs.declared.fault.QueryFault.{QueryFault}
use Rattle.query_text.specs.declared.refusal.QueryRefusal.{QueryRefusal}
use Rattle.query_text.specs.declared.fault.QueryFault.TheVariants as query
use Rattle.source_io.specs.declared.fault.OpenFault.{OpenFault}
use Rattle.source_io.specs.declared.fault.OpenFault.TheVariants as opening
use Rattle.report.specs.Status.{status_of}
use Rattle.report.specs.declared.ending.Refusal.TheVariants.{Array, Text, Query}
use Rattle.report.specs.declared.ending.Failure.TheVariants.{Read, NoMemory}
use Rattle.report.specs.declared.ending.Ending.{Ending}
use Rattle.report.specs.declared.ending.Ending.TheVariants as ending
use Rattle.search_run.specs.declared.stop.Stop.{Stop}
use Rattle.search_run.specs.declared.stop.Stop.TheVariants.{Refused, Failed}

-- the ending of a command that this stop ends
abbrev pub ending_of : Stop → Ending
ending_of (Refused r) = ending.Refused r
ending_of (Failed f) = ending.Failed f

-- the exit status that a stop leads to
abbrev pub stop_status : Stop → ℕ
stop_status s = status_of (ending_of s)

-- reading stops no command for its words, and no write failed
abbrev pub IsOfReading : Stop → Type 0
IsOfReading s = (stop_status s ≢ 2) × (stop_status s ≢ 6)

-- a failure of reading, or out of memory
abbrev pub IsReadFaultOrNoMemory : Stop → Type 0
IsReadFaultOrNoMemory s = (s ≡ Failed Read) ⊎ (s ≡ Failed NoMemory)

-- a stop for a read fault has this cause
abbrev pub IsCausedBy : Type 0 → Stop → Type 0
IsCausedBy fact s = stop_status s ≡ 5 → fact

-- unless it was stopped for a read fault, this is so
abbrev pub UnlessReadFault : {T : Type 0} → Type 0 → Result T Stop → Type 0
UnlessReadFault {T} fact result = MatchResult result (λ _. fact) (λ s. stop_status s ≢ 5 → fact)

-- ---- the faults of lower crates

abbrev pub stop_at_opening : OpenFault → Stop
stop_at_opening opening.Failed = Failed Read
stop_at_opening opening.NoMemory = Failed NoMemory

abbrev pub stop_at_header : HeaderFault → Stop
stop_at_header (header.Refused r) = Refused (Array r)
stop_at_header header.Read = Failed Read

abbrev pub stop_at_cells : CellsFault → Stop
stop_at_cells cells.Read = Failed Read
stop_at_cells cells.NoMemory = Failed NoMemory

-- a refused query
abbrev pub stop_for_query : QueryRefusal → Stop
stop_for_query r = Refused (Query r)

abbrev pub stop_at_query : QueryFault → Stop
stop_at_query (query.Refused r) = stop_for_query r
stop_at_query query.NoMemory = Failed NoMemory

-- a refused array text
abbrev pub stop_for_text : TextRefusal → Stop
stop_for_text r = Refused (Text r)

abbrev pub stop_at_text : TextFault → Stop
stop_at_text (text.Refused r) = stop_for_text r
stop_at_text text.NoMemory = Failed NoMemory
