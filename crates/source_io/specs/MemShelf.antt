-- What a shelf in memory shows, and which of its calls fail. Used by the shelf in memory alone.
use Rattle.std.specs.Prelude.{ℕ, ◌+◌, ◌&&◌, List, Bool, Some, not, is_some, length, map, option_map, string_bytes}
use Rattle.std.specs.List.{flat_map}
use Rattle.std.specs.FinMap.{get}
use Rattle.source_io.specs.declared.mem_shelf.MemShelf.{MemShelf}
use Rattle.source_io.specs.Files.{files_of}
use Rattle.source_io.specs.MemSource.{reads_by}
use Rattle.source_io.specs.Plan.{is_listed}
use Rattle.source_io.specs.Shelf.{ShelfState}

-- what a shelf in memory shows
abbrev pub shows : MemShelf → ShelfState
shows shelf = record {
  holds = Some (files_of shelf.files.items);
  faults = shelf.faults;
  source_faults = shelf.source_faults;
  sink_faults = shelf.sink_faults;
  asked = Some (flat_map reads_by shelf.returned.items);
  opened = Some (map string_bytes shelf.opened.items);
  lent = shelf.lent;
  making = option_map string_bytes shelf.making;
}

-- the number of the next opening or creating
abbrev pub next_call : MemShelf → ℕ
next_call shelf = length shelf.opened.items + 1

-- the plan names the next opening or creating
abbrev pub next_fails : MemShelf → Bool
next_fails shelf = is_listed (next_call shelf) shelf.plan.opens.items

-- the next opening lends a file: one has the name, and the plan does not name the opening
abbrev pub next_lends : MemShelf → List ℕ → Bool
next_lends shelf name = is_some (get (files_of shelf.files.items) name) && not (next_fails shelf)
