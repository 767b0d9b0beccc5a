-- What the command `pack` answers, prints and makes.
use Rattle.std.proofs.Common.{◌≡◌, ◌≢◌, ◌⊎◌, ℕ, true, false, List, [], Option, Some, None, Ok, inl, inr, option_map, refl, sym, subst, append-nil}
use Rattle.std.proofs.Math.Dec.{eqb}
use Rattle.std.proofs.lemmas.Bool.Decides.{eqb_tells}
use Rattle.source_io.specs.Files.{Files, file_of, with_file, HasPrefix}
use Rattle.lists.proofs.Appending.{prefix_nothing, appended-nil}
use Rattle.array_file.specs.Written.{array_bytes}
use Rattle.array_text.specs.declared.read.ArrayText.{ArrayText}
use Rattle.report.specs.Status.{status_of}
use Rattle.report.specs.declared.ending.Ending.{Ending}
use Rattle.report.specs.declared.ending.Ending.TheVariants.{Done, Refused, Failed}
use Rattle.search_run.specs.Meaning.{told_file_of}
use Rattle.search_run.specs.Texts.{LoadsText, packing, packed_bytes}
use Rattle.search_run.specs.Ends.{Prints, LeavesFile}

-- a command that prints nothing has printed all, whatever its ending
pub prints_no_text : (held : Option Files) (e : Ending) (old : Option (List ℕ)) → Prints e (option_map (λ files. []) held) old old
prints_no_text held (Refused r) old = λ i. old
prints_no_text None Done old = tt
prints_no_text (Some files) Done old = sym (appended-nil old)
prints_no_text None (Failed f) old = tt
prints_no_text (Some files) (Failed f) old = prefix_nothing old []

-- the files are as they were, or a prefix of these bytes came under the name
record Left (held : Option Files) (name bytes : List ℕ) (new : Option Files) : Type 0 where
  pub left : (new ≡ held) ⊎ HasPrefix held name bytes new

-- what a call that makes a file leaves, if it did not end with `Done`
left_unfinished : (held new : Option Files) (name bytes : List ℕ) (e : Ending) → e ≢ Done → (status_of e ≡ 6 → HasPrefix held name bytes new) → (e ≢ Done → status_of e ≢ 6 → new ≡ held)
    → ((eqb (status_of e) 6 ≡ true) × (status_of e ≡ 6)) ⊎ ((eqb (status_of e) 6 ≡ false) × (status_of e ≢ 6)) → Left held name bytes new
left_unfinished held new name bytes e unfinished part nothing (inl six) = record { left = inr (part six.1) }
left_unfinished held new name bytes e unfinished part nothing (inr other) = record { left = inl (nothing unfinished other.1) }

-- what it leaves, by how it ended
left_by : (held new : Option Files) (name bytes : List ℕ) (e : Ending) → (e ≡ Done → new ≡ with_file held name bytes) → (status_of e ≡ 6 → HasPrefix held name bytes new)
    → (e ≢ Done → status_of e ≢ 6 → new ≡ held) → Left held name bytes new
left_by held new name bytes Done whole part nothing = record { left = inr (bytes, ([], append-nil bytes), whole refl) }
left_by held new name bytes (Refused r) whole part nothing =
    left_unfinished held new name bytes (Refused r) (λ same. cc) part nothing (eqb_tells (status_of (Refused r)) 6)
left_by held new name bytes (Failed f) whole part nothing =
    left_unfinished held new name bytes (Failed f) (λ same. cc) part nothing (eqb_tells (status_of (Failed f)) 6)

-- the same of the file of a text that was loaded
pub leaves_packed : (held new : Option Files) (text array : List ℕ) (a : ArrayText) (e : Ending) → LoadsText (file_of held text) (Ok a)
    → (e ≡ Done → new ≡ with_file held array (array_bytes a.layout a.cells.items)) → (status_of e ≡ 6 → HasPrefix held array (array_bytes a.layout a.cells.items) new)
    → (e ≢ Done → status_of e ≢ 6 → new ≡ held) → LeavesFile (told_file_of held (packing text array)) held new
leaves_packed None new text array a e loads whole part nothing = untold (left_by None new array (array_bytes a.layout a.cells.items) e whole part nothing).left
  where
    untold : (new ≡ None) ⊎ HasPrefix None array (array_bytes a.layout a.cells.items) new → new ≡ None
    untold (inl same) = same
    untold (inr prefix) = prefix.2
leaves_packed (Some files) new text array a e loads whole part nothing =
    subst (λ read. LeavesFile (Some (option_map (λ bytes. (array, bytes)) (packed_bytes read))) (Some files) new) (sym loads.1)
    (left_by (Some files) new array (array_bytes a.layout a.cells.items) e whole part nothing).left
