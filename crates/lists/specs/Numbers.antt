-- Statements about a list of numbers.
-- Used by `grids`, `cells`, `layouts`, `cell_fold`, `chunk_copies`, `domains`, `query_model`, `plain_enum`, `query_text`, `array_text`, `array_file`, `chunk_store` and `search_run`, and in this crate.
use Rattle.std.specs.Prelude.{◌≡◌, ℕ, ◌*◌, neg_ℤ, ◌≤ℤ◌, List, [], ◌∷◌, length, ℤ, pos, ◌+ℤ◌, Option, Some, None, fold}
use Rattle.std.specs.Int.{int_min, int_max}
use Rattle.std.specs.List.{sum_by}

-- how many there are
abbrev pub count_of : List ℤ → ℤ
count_of numbers = pos (length numbers)

-- their total, 0 if there are none
abbrev pub sum_of : List ℤ → ℤ
sum_of numbers = fold ◌+ℤ◌ (pos 0) numbers

-- the smallest, if there is one
abbrev pub least_of : List ℤ → Option ℤ
least_of [] = None
least_of (x ∷ xs) = Some (fold int_min x xs)

-- the largest, if there is one
abbrev pub greatest_of : List ℤ → Option ℤ
greatest_of [] = None
greatest_of (x ∷ xs) = Some (fold int_max x xs)

-- the product, 1 if there are none
abbrev pub product : List ℕ → ℕ
product [] = 1
product (n ∷ ns) = n * product ns

-- z lies from -m up to m
pub record IsWithin (z : ℤ) (m : ℕ) : Type 0 where
  pub low : neg_ℤ (pos m) ≤ℤ z
  pub high : z ≤ℤ pos m

-- the same items, each as often, in any order: every weighing gives both lists the same weight
abbrev pub HaveSameItems : {X : Type 0} → List X → List X → Type 0
HaveSameItems {X} xs ys = (weight : X → ℕ) → sum_by weight xs ≡ sum_by weight ys
