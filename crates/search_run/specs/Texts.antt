-- What it means to make the array file of an array text, and what loading the text answers.
-- Used by the command `pack`.
use Rattle.std.specs.Prelude.{◌≡◌, ℕ, ◌^◌, List, [], ◌∷◌, length, Option, Some, None, option_map, Result, Ok, Err, MatchOption, ⊤, true}
use Rattle.source_io.specs.Files.{bytes_at}
use Rattle.cells.specs.declared.cell.Cell.{Cell}
use Rattle.layouts.specs.declared.numbers.LayoutNumbers.{LayoutNumbers}
use Rattle.array_file.specs.Written.{array_bytes}
use Rattle.lists.specs.Numbers.{product}
use Rattle.array_text.specs.Walk.{Walked, stated_array}
use Rattle.array_text.specs.declared.read.ArrayText.{ArrayText}
use Rattle.report.specs.declared.ending.Refusal.{Refusal}
use Rattle.report.specs.declared.ending.Refusal.TheVariants as refusal
use Rattle.search_run.specs.Meaning.{Meaning}
use Rattle.search_run.specs.Reads.{whole_up_to}
use Rattle.search_run.specs.declared.stop.Stop.{Stop}
use Rattle.search_run.specs.declared.stop.Stop.TheVariants.{Refused, Failed}

-- the refusal of an array text; none if it is read
abbrev pub text_refusal : Walked (LayoutNumbers × List Cell) → Option Refusal
text_refusal (Ok a) = None
text_refusal (Err r) = Some (refusal.Text r)

-- the bytes of the array file of a text; nothing if the text is refused
abbrev pub packed_bytes : Walked (LayoutNumbers × List Cell) → Option (List ℕ)
packed_bytes (Ok (layout, cells)) = Some (array_bytes layout cells)
packed_bytes (Err r) = None

-- the name and the bytes of the array file that is made of a text
abbrev pub packed_file : List ℕ → List ℕ → Option (List ℕ × List ℕ)
packed_file name text = option_map (λ bytes. (name, bytes)) (packed_bytes (stated_array text))

-- to make the array file of an array text
abbrev pub packing : List ℕ → List ℕ → Meaning
packing text array =
    record {
      refusal = λ files. text_refusal (stated_array (bytes_at files text));
      output = λ files. [];
      makes_file = true;
      file = λ files. packed_file array (bytes_at files text);
      reads = λ files. (text, whole_up_to (2 ^ 30) (bytes_at files text)) ∷ [];
      openings = text ∷ array ∷ [];
    }

-- ---- loading

-- the array has all its cells. It is the one that the bytes state, or this is their refusal, if they are told
abbrev pub LoadsText : Option (List ℕ) → Result ArrayText Stop → Type 0
LoadsText told (Ok a) = (length a.cells.items ≡ product a.layout.extents) × MatchOption told ⊤ (λ bytes. stated_array bytes ≡ Ok (a.layout, a.cells.items))
LoadsText told (Err (Refused r)) = MatchOption told ⊤ (λ bytes. text_refusal (stated_array bytes) ≡ Some r)
LoadsText told (Err (Failed f)) = ⊤
