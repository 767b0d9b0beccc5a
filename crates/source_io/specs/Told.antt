-- What a source tells about its bytes, and what a count of faults shows.
-- Used by every function that reads or writes.
use Rattle.std.specs.Prelude.{◌≡◌, ℕ, ◌-◌, ◌^◌, ◌<◌, ◌≤◌, ◌⊎◌, List, ◌++◌, length, take, drop, Option, Some, None}
use Rattle.std.specs.Coded.{×_prop, Unit-prop, le_prop, Coded-set, coded_list, coded_ℕ}

-- a count of faults is greater than before, or is 2^64 - 1, its last value
abbrev pub Rose : ℕ → ℕ → Type 0
Rose old new = (old < new) ⊎ (new ≡ 2 ^ 64 - 1)

-- the size is the number of the bytes, if they are told
abbrev pub SizeIs : Option (List ℕ) → ℕ → Type 0
SizeIs None n = Unit {0}
SizeIs (Some all) n = n ≡ length all

-- the first n items of a list became the bytes from an offset on, if they are told. The other items are the same
abbrev pub Fills : Option (List ℕ) → ℕ → ℕ → List ℕ → List ℕ → Type 0
Fills None offset n old new = drop n new ≡ drop n old
Fills (Some all) offset n old new = (n ≤ length (drop offset all)) × (new ≡ take n (drop offset all) ++ drop n old)

-- the list is the n bytes from an offset on, if they are told
abbrev pub Holds : Option (List ℕ) → ℕ → ℕ → List ℕ → Type 0
Holds None offset n list = Unit {0}
Holds (Some all) offset n list = (n ≤ length (drop offset all)) × (list ≡ take n (drop offset all))

-- any two proofs of `Holds` are equal
pub Holds-prop : (told : Option (List ℕ)) (offset n : ℕ) (list : List ℕ) → IsProp (Holds told offset n list)
Holds-prop None offset n list = Unit-prop
Holds-prop (Some all) offset n list = ×_prop le_prop (Coded-set (coded_list coded_ℕ) _ _)
