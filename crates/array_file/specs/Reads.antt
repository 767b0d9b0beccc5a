-- What reading a header answers.
-- Used in this crate and by `search_run`.
use Rattle.std.specs.Prelude.{◌≡◌, ℕ, List, take, Option, Some, None, Result, Ok, Err}
use Rattle.layouts.specs.declared.layout.Layout.{Layout}
use Rattle.array_file.specs.Header.{stored_layout}
use Rattle.array_file.specs.Stored.{refusal_of}
use Rattle.array_file.specs.declared.header.HeaderFault.{HeaderFault}
use Rattle.array_file.specs.declared.header.HeaderFault.TheVariants.{Refused, Read}

-- the layout of a file that is not refused, or exactly its refusal, or a fault
abbrev pub Reads : List ℕ → Result Layout HeaderFault → Type 0
Reads bytes (Ok l) = (refusal_of bytes ≡ None) × (l ≡ stored_layout (take 96 bytes))
Reads bytes (Err (Refused r)) = refusal_of bytes ≡ Some r
Reads bytes (Err Read) = Unit {0}

-- the same, if the bytes are told
abbrev pub ReadsHeader : Option (List ℕ) → Result Layout HeaderFault → Type 0
ReadsHeader None r = Unit {0}
ReadsHeader (Some bytes) r = Reads bytes r
