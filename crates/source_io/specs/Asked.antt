-- Which reads were asked of a source: their offsets and lengths, if they are told.
-- Used to say which parts of a file a function reads.
use Rattle.std.specs.Prelude.{◌≡◌, ℕ, ◌+◌, ◌<◌, ◌≤◌, List, [], ◌∷◌, ◌++◌, map, Option, Some, None}
use Rattle.source_io.specs.Plan.{bytes_per_call}

-- reads that are not empty. Each lies within the offsets from a up to b, and begins after the beginning of the one before
abbrev pub Rising : ℕ → ℕ → List (ℕ × ℕ) → Type 0
Rising a b [] = Unit {0}
Rising a b (r ∷ rs) = (a ≤ r.0) × (0 < r.1) × (r.0 + r.1 ≤ b) × Rising (r.0 + 1) b rs

-- reads that rise within the offsets from a up to b were added to the record, if it is told
abbrev pub Asks : Option (List (ℕ × ℕ)) → Option (List (ℕ × ℕ)) → ℕ → ℕ → Type 0
Asks None new a b = new ≡ None
Asks (Some old) new a b = (more : List (ℕ × ℕ)) × (new ≡ Some (old ++ more)) × Rising a b more

-- a read gives this many of the bytes that it asks for, if the step of its source is told
abbrev pub Gives : Option ℕ → ℕ → ℕ → Type 0
Gives None wanted given = Unit {0}
Gives (Some step) wanted given = given ≡ bytes_per_call step wanted

-- reads that cover the offsets from a up to b. Each asks for all that is left, and gives at least one byte. The next one
-- begins after the bytes that it gave. When nothing is left, no read follows
abbrev pub Covering : Option ℕ → ℕ → ℕ → List (ℕ × ℕ) → Type 0
Covering step a b [] = a ≡ b
Covering step a b (r ∷ rs) = (r.0 ≡ a) × (a + r.1 ≡ b) × ((given : ℕ) × (0 < given) × (given ≤ r.1) × Gives step r.1 given × Covering step (a + given) b rs)

-- reads that cover the offsets from a up to b were added to the record, if it is told
abbrev pub AsksWhole : Option ℕ → Option (List (ℕ × ℕ)) → Option (List (ℕ × ℕ)) → ℕ → ℕ → Type 0
AsksWhole step None new a b = new ≡ None
AsksWhole step (Some old) new a b = (more : List (ℕ × ℕ)) × (new ≡ Some (old ++ more)) × Covering step a b more

-- a prefix of reads that cover the offsets from a up to b was added to the record, if it is told
abbrev pub AsksPrefix : Option ℕ → Option (List (ℕ × ℕ)) → Option (List (ℕ × ℕ)) → ℕ → ℕ → Type 0
AsksPrefix step None new a b = new ≡ None
AsksPrefix step (Some old) new a b = (more rest : List (ℕ × ℕ)) × (new ≡ Some (old ++ more)) × Covering step a b (more ++ rest)

-- this read was added to the record, if it is told
abbrev pub AsksOne : Option (List (ℕ × ℕ)) → Option (List (ℕ × ℕ)) → ℕ × ℕ → Type 0
AsksOne None new r = new ≡ None
AsksOne (Some old) new r = new ≡ Some (old ++ r ∷ [])

-- a read of a named file
pub record Read : Type 0 where
  pub name : List ℕ
  pub offset : ℕ
  pub len : ℕ

-- the reads as reads of this name
abbrev pub reads_of : List ℕ → List (ℕ × ℕ) → List Read
reads_of name reads = map (λ r. record { name = name; offset = r.0; len = r.1 }) reads

-- a shelf's record after a source came back: with the source's reads at its end, if all this is told
abbrev pub asked_under : Option (List ℕ) → Option (List (ℕ × ℕ)) → Option (List Read) → Option (List Read)
asked_under (Some name) (Some reads) (Some before) = Some (before ++ reads_of name reads)
asked_under (Some name) (Some reads) None = None
asked_under (Some name) None before = None
asked_under None reads before = None
