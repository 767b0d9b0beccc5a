-- Files by their names, if they are told.
-- Used by shelves, and by what is said of commands that read and make files.
use Rattle.std.specs.Prelude.{◌≡◌, ℕ, List, [], Option, Some, None, IsSome, IfSome, unwrap_or, option_map, String, string_bytes, Vec}
use Rattle.std.specs.Prelude.{map as mapped}
use Rattle.std.specs.FinMap as map
use Rattle.std.specs.Ordering.{nat_cmp}
use Rattle.std.specs.Cmp.Lexicographic.{slice_cmp}
use Rattle.lists.specs.Appending.{IsPrefixOf}

-- finitely many names, and the bytes of each
abbrev pub Files : Type 0
Files = map.FinMap (slice_cmp nat_cmp) (List ℕ)

-- the bytes of the file with a name; no bytes if there is no such file
abbrev pub bytes_at : Files → List ℕ → List ℕ
bytes_at files name = unwrap_or (map.get files name) []

-- the bytes of a name, if the files are told
abbrev pub file_of : Option Files → List ℕ → Option (List ℕ)
file_of told name = option_map (λ files. bytes_at files name) told

-- a file has the name, if the files are told
abbrev pub IsHeld : Option Files → List ℕ → Type 0
IsHeld told name = IfSome told (λ files. IsSome (map.get files name))

-- the files of a list of names and bytes. Of several with one name, the first counts
abbrev pub files_of : {A B : Type 0} → List (String A × Vec ℕ B) → Files
files_of list = map.from_entries (mapped (λ file. (string_bytes file.0, file.1.items)) list)

-- with these bytes under the name, if the files are told. The other files are the same
abbrev pub with_file : Option Files → List ℕ → List ℕ → Option Files
with_file told name bytes = option_map (λ files. map.insert files name bytes) told

-- with what was written under the name, if both are told
abbrev pub with_written : Option Files → List ℕ → Option (List ℕ) → Option Files
with_written told name (Some bytes) = with_file told name bytes
with_written told name None = None

-- a prefix of these bytes was added under the name, if the files are told. The other files are the same
abbrev pub HasPrefix : Option Files → List ℕ → List ℕ → Option Files → Type 0
HasPrefix old name bytes new = (prefix : List ℕ) × IsPrefixOf prefix bytes × (new ≡ with_file old name prefix)
