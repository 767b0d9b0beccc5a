-- Which parts of which files a command reads.
-- Used by everything that loads a file, and by the top call. A part of a file is two offsets: where it begins and where
-- it ends.
use Rattle.std.specs.Prelude.{◌≡◌, ⊤, ℕ, List, [], ◌∷◌, ◌++◌, length, min, nat_le, if◌then◌else◌, Option, Some, None, MatchOption}
use Rattle.source_io.specs.Asked.{Rising, Read, reads_of}
use Rattle.source_io.specs.Files.{Files}

-- the parts of a file, in the order in which they are read
abbrev pub Parts : Type 0
Parts = List (ℕ × ℕ)

-- the whole of a file with these bytes, if it has no more bytes than this
abbrev pub whole_up_to : ℕ → List ℕ → Parts
whole_up_to most bytes = if nat_le (length bytes) most then (0, length bytes) ∷ [] else []

-- the cells of an array file with these bytes, if there is nothing to refuse
abbrev pub cells_unless : {R : Type 0} → Option R → List ℕ → Parts
cells_unless {R} None bytes = (96, length bytes) ∷ []
cells_unless {R} (Some r) bytes = []

-- the header of an array file with these bytes, and its cells if there is nothing to refuse
abbrev pub array_parts : {R : Type 0} → Option R → List ℕ → Parts
array_parts {R} refusal bytes = (0, min 96 (length bytes)) ∷ cells_unless refusal bytes

-- ---- reads of one file

-- reads of these parts, one part after the other: those of each part rise within it, and there may be none
abbrev pub InParts : Parts → List (ℕ × ℕ) → Type 0
InParts [] reads = reads ≡ []
InParts (part ∷ parts) reads = (first : List (ℕ × ℕ)) × (rest : List (ℕ × ℕ)) × (reads ≡ first ++ rest) × Rising part.0 part.1 first × InParts parts rest

-- such reads were added to a source's record, if it is told
abbrev pub AsksParts : Parts → Option (List (ℕ × ℕ)) → Option (List (ℕ × ℕ)) → Type 0
AsksParts parts None new = new ≡ None
AsksParts parts (Some old) new = (more : List (ℕ × ℕ)) × (new ≡ Some (old ++ more)) × InParts parts more

-- the same, if the bytes are told that say which parts these are
abbrev pub AsksPartsOf : (List ℕ → Parts) → Option (List ℕ) → Option (List (ℕ × ℕ)) → Option (List (ℕ × ℕ)) → Type 0
AsksPartsOf parts told old new = MatchOption told ⊤ (λ bytes. AsksParts (parts bytes) old new)

-- ---- reads of several files

-- reads of these files, one file after the other: of each file, its name and its parts
abbrev pub InFiles : List (List ℕ × Parts) → List Read → Type 0
InFiles [] reads = reads ≡ []
InFiles (file ∷ files) reads = (first : List (ℕ × ℕ)) × (rest : List Read) × (reads ≡ reads_of file.0 first ++ rest) × InParts file.1 first × InFiles files rest

-- such reads were added to a shelf's record, if it is told before and after
abbrev pub AsksFiles : List (List ℕ × Parts) → Option (List Read) → Option (List Read) → Type 0
AsksFiles files None new = ⊤
AsksFiles files (Some old) None = ⊤
AsksFiles files (Some old) (Some new) = (more : List Read) × (new ≡ old ++ more) × InFiles files more

-- the same, if the files are told that say which parts these are
abbrev pub AsksOf : (Files → List (List ℕ × Parts)) → Option Files → Option (List Read) → Option (List Read) → Type 0
AsksOf reads held old new = MatchOption held ⊤ (λ files. AsksFiles (reads files) old new)
