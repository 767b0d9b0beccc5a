-- What loading asks of a source and of a shelf, part by part and file by file.
-- Used by everything that loads a file.
use Rattle.std.proofs.Common.{◌≡◌, ℕ, ◌+◌, List, [], ◌∷◌, ◌++◌, length, min, Option, Some, None, Ok, MatchOption, IfSome, sym, ap, refl, ◌∙◌, subst, append_assoc, append-nil}
use Rattle.source_io.specs.Asked.{Rising, Asks, Read, reads_of, asked_under}
use Rattle.source_io.specs.Told.{SizeIs}
use Rattle.source_io.specs.Files.{Files}
use Rattle.layouts.specs.declared.layout.Layout.{Layout}
use Rattle.array_file.specs.Reads.{ReadsHeader}
use Rattle.array_file.specs.Stored.{refusal_of}
use Rattle.chunk_store.specs.Pieces.{Pieces, AsksPieces}
use Rattle.search_run.specs.Reads.{Parts, cells_unless, array_parts, InParts, AsksParts, InFiles, AsksFiles, AsksPartsOf, AsksOf}

-- ---- no reads

in_parts_nothing : (parts : Parts) → InParts parts []
in_parts_nothing [] = refl
in_parts_nothing (part ∷ parts) = ([], [], refl, tt, in_parts_nothing parts)

in_files_nothing : (files : List (List ℕ × Parts)) → InFiles files []
in_files_nothing [] = refl
in_files_nothing (file ∷ files) = ([], [], refl, in_parts_nothing file.1, in_files_nothing files)

files_nothing : (files : List (List ℕ × Parts)) (old : Option (List Read)) → AsksFiles files old old
files_nothing files None = tt
files_nothing files (Some old) = ([], sym (append-nil old), in_files_nothing files)

-- ---- reads of one file

rising_of_pieces : (a b : ℕ) (rs : List (ℕ × ℕ)) → Pieces a b rs → Rising a b rs
rising_of_pieces a b [] h = tt
rising_of_pieces a b (r ∷ rs) h = (h.0, h.1, h.3, rising_of_pieces (r.0 + 1) b rs h.4)

pub asks_first : (a b : ℕ) (parts : Parts) (old new : Option (List (ℕ × ℕ))) → Asks old new a b → AsksParts ((a, b) ∷ parts) old new
asks_first a b parts None new h = h
asks_first a b parts (Some old) new h = (h.0, h.1, (h.0, [], sym (append-nil h.0), h.2, in_parts_nothing parts))

pub asks_then : (a b c d : ℕ) (old mid new : Option (List (ℕ × ℕ))) → Asks old mid a b → AsksPieces mid new c d → AsksParts ((a, b) ∷ (c, d) ∷ []) old new
asks_then a b c d None mid new h k = subst (λ m. AsksPieces m new c d) h k
asks_then a b c d (Some old) mid new h k =
    let after : AsksPieces (Some (old ++ h.0)) new c d = subst (λ m. AsksPieces m new c d) h.1 k in
    (h.0 ++ after.0, after.1 ∙ ap Some (append_assoc old h.0 after.0), (h.0, after.0, refl, h.2, (after.0, [], sym (append-nil after.0), rising_of_pieces c d after.0 after.2, refl)))

-- ---- one more file

in_files_more : (files : List (List ℕ × Parts)) (name : List ℕ) (parts : Parts) (more : List Read) (reads : List (ℕ × ℕ)) → InFiles files more → InParts parts reads
    → InFiles (files ++ (name, parts) ∷ []) (more ++ reads_of name reads)
in_files_more [] name parts more reads h inside = (reads, [], ap (λ m. m ++ reads_of name reads) h ∙ sym (append-nil (reads_of name reads)), inside, refl)
in_files_more (file ∷ files) name parts more reads h inside =
    (h.0, h.1 ++ reads_of name reads, ap (λ m. m ++ reads_of name reads) h.2 ∙ append_assoc (reads_of file.0 h.0) h.1 (reads_of name reads), h.3, in_files_more files name parts h.1 reads h.4 inside)

-- a source that was opened as this name, and asked for these parts, came back
pub files_more : (files : List (List ℕ × Parts)) (name : List ℕ) (parts : Parts) (told_name : Option (List ℕ)) (before after : Option (List (ℕ × ℕ))) (old mid new : Option (List Read))
    → AsksFiles files old mid → IfSome told_name (λ n. n ≡ name) → IfSome before (λ reads. reads ≡ []) → AsksParts parts before after → new ≡ asked_under told_name after mid
    → AsksFiles (files ++ (name, parts) ∷ []) old new
files_more files name parts told_name before after None mid new h named fresh asked same = tt
files_more files name parts None before after (Some old) mid new h named fresh asked same = subst (AsksFiles (files ++ (name, parts) ∷ []) (Some old)) (sym same) tt
files_more files name parts (Some n) before None (Some old) mid new h named fresh asked same = subst (AsksFiles (files ++ (name, parts) ∷ []) (Some old)) (sym same) tt
files_more files name parts (Some n) before (Some reads) (Some old) None new h named fresh asked same = subst (AsksFiles (files ++ (name, parts) ∷ []) (Some old)) (sym same) tt
files_more files name parts (Some n) None (Some reads) (Some old) (Some mid) new h named fresh asked same = cc
files_more files name parts (Some n) (Some begun) (Some reads) (Some old) (Some mid) new h named fresh asked same =
    let is : Some reads ≡ Some asked.0 = asked.1 ∙ ap (λ b. Some (b ++ asked.0)) fresh in
    let more : reads ≡ asked.0 = cc in
    let inside : InParts parts reads = subst (InParts parts) (sym more) asked.2 in
    let all : mid ++ reads_of name reads ≡ old ++ (h.0 ++ reads_of name reads) = ap (λ m. m ++ reads_of name reads) h.1 ∙ append_assoc old h.0 (reads_of name reads) in
    let added : AsksFiles (files ++ (name, parts) ∷ []) (Some old) (Some (mid ++ reads_of name reads)) = (h.0 ++ reads_of name reads, all, in_files_more files name parts h.0 reads h.2 inside) in
    subst (AsksFiles (files ++ (name, parts) ∷ []) (Some old)) (sym (same ∙ ap (λ m. Some (mid ++ reads_of m reads)) named)) added

-- ---- what is loaded

-- a shelf to which no source was handed back
pub told_same : (reads : Files → List (List ℕ × Parts)) (held : Option Files) (old new : Option (List Read)) → new ≡ old → AsksOf reads held old new
told_same reads None old new same = tt
told_same reads (Some files) old new same = subst (AsksFiles (reads files) old) (sym same) (files_nothing (reads files) old)

module _ {R : Type 0} (refusal : List ℕ → Option R) where
  -- the header of an array file
  pub header_asked : (told : Option (List ℕ)) (size len : ℕ) (old new : Option (List (ℕ × ℕ))) → size ≡ len → SizeIs told size → Asks old new 0 (min 96 len) → AsksPartsOf (λ bytes. array_parts (refusal bytes) bytes) told old new
  header_asked None size len old new same told asked = tt
  header_asked (Some bytes) size len old new same told asked =
      asks_first 0 (min 96 (length bytes)) (cells_unless (refusal bytes) bytes) old new (subst (λ n. Asks old new 0 (min 96 n)) (sym same ∙ told) asked)

  -- the header and the cells of an array file
  pub cells_asked : (told : Option (List ℕ)) (size len end : ℕ) (old mid new : Option (List (ℕ × ℕ))) → size ≡ len → SizeIs told size → end ≡ len → MatchOption told (Unit {0}) (λ bytes. refusal bytes ≡ None)
      → Asks old mid 0 (min 96 len) → AsksPieces mid new 96 end → AsksPartsOf (λ bytes. array_parts (refusal bytes) bytes) told old new
  cells_asked None size len end old mid new same told whole accepted header cells = tt
  cells_asked (Some bytes) size len end old mid new same told whole accepted header cells =
      let is : len ≡ length bytes = sym same ∙ told in
      subst (λ r. AsksParts ((0, min 96 (length bytes)) ∷ cells_unless r bytes) old new) (sym accepted)
      (asks_then 0 (min 96 (length bytes)) 96 (length bytes) old mid new (subst (λ n. Asks old mid 0 (min 96 n)) is header) (subst (λ n. AsksPieces mid new 96 n) (whole ∙ is) cells))

-- an array file of which the layout was read is not refused
pub header_accepted : (told : Option (List ℕ)) (l : Layout) → ReadsHeader told (Ok l) → MatchOption told (Unit {0}) (λ bytes. refusal_of bytes ≡ None)
header_accepted None l h = tt
header_accepted (Some bytes) l h = h.0
