-- A file found by its name, in a list that is searched from its beginning. Used by the shelf in memory.
use Rattle.std.proofs.Common.{◌≡◌, ℕ, ◌+◌, ◌<◌, List, ◌∷◌, true, false, cond, Some, String, string_bytes, Vec, drop, length, get_or, sym, ap, ◌∙◌, suc, add-one}
use Rattle.std.proofs.Math.Seq.{drop-cons}
use Rattle.std.specs.FinMap.{get, get-insert}
use Rattle.std.specs.Cmp.Lexicographic.{nat_list_cmp_total}
use Rattle.std.specs.Str.{bytes_eq}
use Rattle.std.proofs.lemmas.Map.Text.{is_eq-slice_cmp}
use Rattle.source_io.specs.Files.{files_of}

module _ {A B : Type 0} (name : List ℕ) where
  get-files_of-cons : (file : String A × Vec ℕ B) (rest : List (String A × Vec ℕ B))
      → get (files_of (file ∷ rest)) name ≡ cond (bytes_eq name (string_bytes file.0)) (Some file.1.items) (get (files_of rest) name)
  get-files_of-cons file rest =
      get-insert nat_list_cmp_total (files_of rest) (string_bytes file.0) file.1.items name
      ∙ ap (λ b. cond b (Some file.1.items) (get (files_of rest) name)) (is_eq-slice_cmp name (string_bytes file.0))

  module _ (files : List (String A × Vec ℕ B)) (i : ℕ) (file : String A × Vec ℕ B) (below : i < length files) (is_file : file ≡ get_or files i file) where
    get-files_of-drop : get (files_of (drop i files)) name ≡ cond (bytes_eq name (string_bytes file.0)) (Some file.1.items) (get (files_of (drop (i + 1) files)) name)
    get-files_of-drop =
        let first : drop i files ≡ file ∷ drop (i + 1) files =
        rw add-one (drop-cons files i file below ∙ ap (λ f. f ∷ drop (suc i) files) (sym is_file)) in
        ap (λ list. get (files_of list) name) first ∙ get-files_of-cons file (drop (i + 1) files)

    -- the file at i has the name
    pub found : bytes_eq name (string_bytes file.0) ≡ true → get (files_of (drop i files)) name ≡ Some file.1.items
    found same = get-files_of-drop ∙ ap (λ b. cond b (Some file.1.items) (get (files_of (drop (i + 1) files)) name)) same

    -- the file at i has another name
    pub passed : bytes_eq name (string_bytes file.0) ≡ false → get (files_of (drop i files)) name ≡ get (files_of (drop (i + 1) files)) name
    passed other = get-files_of-drop ∙ ap (λ b. cond b (Some file.1.items) (get (files_of (drop (i + 1) files)) name)) other
