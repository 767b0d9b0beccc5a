-- What it means to tell of an array file, which is to print its layout and the record of its cells, and what loading it
-- answers.
-- Used by the command `info`.
use Rattle.std.specs.Prelude.{◌≡◌, ⊤, ℕ, List, [], ◌∷◌, take, filter_map, Option, Some, None, MatchOption, Result, Ok, Err, option_map, false}
use Rattle.std.specs.Option.{option_map_or}
use Rattle.source_io.specs.Files.{bytes_at}
use Rattle.cells.specs.Array.{Array}
use Rattle.cells.specs.Records.{record_of}
use Rattle.cells.specs.declared.record.Record.{Record}
use Rattle.array_file.specs.Header.{stored_layout}
use Rattle.array_file.specs.Stored.{refusal_of, stored_array}
use Rattle.report.specs.InfoText.{info_text}
use Rattle.report.specs.declared.ending.Refusal.{Refusal}
use Rattle.report.specs.declared.ending.Refusal.TheVariants as refusal
use Rattle.search_run.specs.Meaning.{Meaning}
use Rattle.search_run.specs.Reads.{array_parts}
use Rattle.search_run.specs.declared.info.ArrayInfo.{ArrayInfo}
use Rattle.search_run.specs.declared.stop.Stop.{Stop}
use Rattle.search_run.specs.declared.stop.Stop.TheVariants.{Refused, Failed}

-- the record of the present cells of an array
abbrev pub record_of_array : Array → Record
record_of_array a = record_of (filter_map (λ c. c) a.cells)

-- what `info` prints of the array file with these bytes
abbrev pub file_info : List ℕ → List ℕ
file_info bytes = info_text (stored_layout (take 96 bytes)) (record_of_array (stored_array bytes))

-- the refusal of an array file
abbrev pub array_refusal : List ℕ → Option Refusal
array_refusal bytes = option_map refusal.Array (refusal_of bytes)

-- what `info` prints of an array file, and nothing if it is refused
abbrev pub info_output : List ℕ → List ℕ
info_output array = option_map_or (λ r. []) (refusal_of array) (file_info array)

-- to print what an array file holds
abbrev pub describing : List ℕ → Meaning
describing array =
    record {
      refusal = λ files. array_refusal (bytes_at files array);
      output = λ files. info_output (bytes_at files array);
      makes_file = false;
      file = λ files. None;
      reads = λ files. (array, array_parts (refusal_of (bytes_at files array)) (bytes_at files array)) ∷ [];
      openings = array ∷ [];
    }

-- ---- loading

-- these are the layout and the record of the array file, or this is its refusal, if the bytes are told
abbrev pub LoadsInfo : Option (List ℕ) → Result ArrayInfo Stop → Type 0
LoadsInfo told (Ok i) = MatchOption told ⊤ (λ bytes. (refusal_of bytes ≡ None) × (i.layout ≡ stored_layout (take 96 bytes)) × (i.cells ≡ record_of_array (stored_array bytes)))
LoadsInfo told (Err (Refused r)) = MatchOption told ⊤ (λ bytes. array_refusal bytes ≡ Some r)
LoadsInfo told (Err (Failed f)) = ⊤
