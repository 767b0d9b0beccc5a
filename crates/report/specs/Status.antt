-- The exit status of an ending, and its line on the error stream.
-- Used by what reports an ending, and by the top call of `search_run`.
use Rattle.std.specs.Prelude.{◌≡◌, ◌⊎◌, ◌+◌, ℕ, List, [], ◌++◌, Option, decimal, codes}
use Rattle.lists.specs.Appending.{appended, AppendsPrefix}
use Rattle.layouts.specs.declared.refusal.LayoutRefusal.{LayoutRefusal}
use Rattle.layouts.specs.declared.refusal.LayoutRefusal.TheVariants.{Rank, Extent, TooManyCells, ChunkExtent, ChunkTooLarge, Levels, LevelExtent, CoarseGridTooLarge, TooManyBlocks}
use Rattle.array_file.specs.declared.refusal.FileRefusal.{FileRefusal}
use Rattle.array_file.specs.declared.refusal.FileRefusal.TheVariants.{Short, Magic, Version, Layout, WrongLength}
use Rattle.array_text.specs.declared.fault.TextRefusal.{TextRefusal}
use Rattle.array_text.specs.declared.fault.TextRefusal.TheVariants as text
use Rattle.query_text.specs.declared.location.Location.{Location}
use Rattle.query_text.specs.declared.refusal.QueryRefusal.{QueryRefusal}
use Rattle.query_text.specs.declared.refusal.QueryRefusal.TheVariants.{TooLong, NotJson, Shape, UnknownKey, Number, Name, Repeated, Unbound, Dimensions, TooMany, TooLarge}
use Rattle.report.specs.declared.ending.Refusal.{Refusal}
use Rattle.report.specs.declared.ending.Refusal.TheVariants as refusal
use Rattle.report.specs.declared.ending.Failure.{Failure}
use Rattle.report.specs.declared.ending.Failure.TheVariants as failure
use Rattle.report.specs.declared.ending.Ending.{Ending}
use Rattle.report.specs.declared.ending.Ending.TheVariants.{Done, Refused, Failed}

-- ---- the exit status

-- refusals in the order in which they are tested: the words, then the array file or the array text, then the query file
abbrev pub refusal_rank : Refusal → ℕ
refusal_rank refusal.Words = 0
refusal_rank (refusal.Array r) = 1
refusal_rank (refusal.Text r) = 1
refusal_rank (refusal.Query r) = 2

-- failures in their order
abbrev pub failure_rank : Failure → ℕ
failure_rank failure.Read = 0
failure_rank failure.Write = 1
failure_rank failure.NoMemory = 2

-- the exit status of an ending: refusals begin at 2, and failures at 5
abbrev pub status_of : Ending → ℕ
status_of Done = 0
status_of (Refused r) = 2 + refusal_rank r
status_of (Failed f) = 5 + failure_rank f

-- ---- the line on the error stream

-- a refusal of a layout: its number among the refusals of an array file, its name and its fields
abbrev pub layout_refusal_text : LayoutRefusal → List ℕ
layout_refusal_text (Rank n) = codes "4 Rank " ++ decimal n
layout_refusal_text (Extent dim) = codes "5 Extent " ++ decimal dim
layout_refusal_text TooManyCells = codes "6 TooManyCells"
layout_refusal_text (ChunkExtent dim) = codes "7 ChunkExtent " ++ decimal dim
layout_refusal_text ChunkTooLarge = codes "8 ChunkTooLarge"
layout_refusal_text (Levels n) = codes "9 Levels " ++ decimal n
layout_refusal_text (LevelExtent level dim) = codes "10 LevelExtent " ++ decimal level ++ codes " " ++ decimal dim
layout_refusal_text (CoarseGridTooLarge blocks) = codes "11 CoarseGridTooLarge " ++ decimal blocks
layout_refusal_text TooManyBlocks = codes "12 TooManyBlocks"

-- a refusal of an array file: its number, its name and its fields, or the refusal of its layout
abbrev pub array_refusal_text : FileRefusal → List ℕ
array_refusal_text (Short size) = codes "1 Short " ++ decimal size
array_refusal_text Magic = codes "2 Magic"
array_refusal_text (Version n) = codes "3 Version " ++ decimal n
array_refusal_text (Layout r) = layout_refusal_text r
array_refusal_text (WrongLength stated found) = codes "13 WrongLength " ++ decimal stated ++ codes " " ++ decimal found

-- a refusal of an array text: its number, its name and its fields, or the refusal of its layout
abbrev pub text_refusal_text : TextRefusal → List ℕ
text_refusal_text (text.TooLong size) = codes "1 TooLong " ++ decimal size
text_refusal_text (text.Word n) = codes "2 Word " ++ decimal n
text_refusal_text (text.Missing n) = codes "3 Missing " ++ decimal n
text_refusal_text (text.Extra n) = codes "4 Extra " ++ decimal n
text_refusal_text (text.Layout r) = codes "5 Layout " ++ layout_refusal_text r

-- a location in a query: its four numbers, with full stops between them
abbrev pub location_text : Location → List ℕ
location_text p = decimal p.part ++ codes "." ++ decimal p.item ++ codes "." ++ decimal p.field ++ codes "." ++ decimal p.sub

-- a refusal of a query file: its number, its name and its fields
abbrev pub query_refusal_text : QueryRefusal → List ℕ
query_refusal_text (TooLong size) = codes "1 TooLong " ++ decimal size
query_refusal_text NotJson = codes "2 NotJson"
query_refusal_text (Shape location) = codes "3 Shape " ++ location_text location
query_refusal_text (UnknownKey location) = codes "4 UnknownKey " ++ location_text location
query_refusal_text (Number location) = codes "5 Number " ++ location_text location
query_refusal_text (Name location) = codes "6 Name " ++ location_text location
query_refusal_text (Repeated location) = codes "7 Repeated " ++ location_text location
query_refusal_text (Unbound location) = codes "8 Unbound " ++ location_text location
query_refusal_text (Dimensions region found) = codes "9 Dimensions " ++ decimal region ++ codes " " ++ decimal found
query_refusal_text (TooMany location) = codes "10 TooMany " ++ location_text location
query_refusal_text TooLarge = codes "11 TooLarge"

-- what a refusal says
abbrev pub refusal_text : Refusal → List ℕ
refusal_text refusal.Words = codes "usage: searchlight COMMAND WORDS; commands: solo search rehearse verify pack info trial"
refusal_text (refusal.Array r) = codes "array refused: " ++ array_refusal_text r
refusal_text (refusal.Text r) = codes "text refused: " ++ text_refusal_text r
refusal_text (refusal.Query r) = codes "query refused: " ++ query_refusal_text r

-- what a failure says
abbrev pub failure_text : Failure → List ℕ
failure_text failure.Read = codes "read fault"
failure_text failure.Write = codes "write fault"
failure_text failure.NoMemory = codes "no memory"

-- a line of the program with this text
abbrev pub message_with : List ℕ → List ℕ
message_with said = codes "searchlight: " ++ said ++ codes "\n"

-- the line on the error stream. If the output is whole, there is none
abbrev pub message_of : Ending → List ℕ
message_of Done = []
message_of (Refused r) = message_with (refusal_text r)
message_of (Failed f) = message_with (failure_text f)

-- the whole line was appended, or a prefix of it, and then this fact holds
abbrev pub Says : List ℕ → Type 0 → Option (List ℕ) → Option (List ℕ) → Type 0
Says line fact old new = (new ≡ appended old line) ⊎ (fact × AppendsPrefix old line new)
