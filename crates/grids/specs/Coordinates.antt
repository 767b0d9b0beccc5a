-- Coordinates and indices of an array's cells. Indices are row-major, the last dimension fastest.
-- Used by `cells`, `layouts`, `cell_fold`, `chunk_copies`, `array_file` and `chunk_store`, and in this crate.
use Rattle.std.specs.Prelude.{ℕ, ◌+◌, ◌*◌, ◌/◌, ◌%◌, nat_lt, Bool, true, false, ◌&&◌, List, [], ◌∷◌}
use Rattle.lists.specs.Numbers.{product}

-- the coordinates of the cell of index k, in an array of these extents
abbrev pub coordinates_of : List ℕ → ℕ → List ℕ
coordinates_of [] k = []
coordinates_of (n ∷ ns) k = (k / product ns) ∷ coordinates_of ns (k % product ns)

-- the index of the cell with these coordinates
abbrev pub index_of : List ℕ → List ℕ → ℕ
index_of [] cs = 0
index_of (n ∷ ns) [] = 0
index_of (n ∷ ns) (c ∷ cs) = c * product ns + index_of ns cs

-- there is one coordinate for each extent, and each is below its extent
abbrev pub in_bounds : List ℕ → List ℕ → Bool
in_bounds [] [] = true
in_bounds [] (c ∷ cs) = false
in_bounds (n ∷ ns) [] = false
in_bounds (n ∷ ns) (c ∷ cs) = nat_lt c n && in_bounds ns cs

-- there is one coordinate for each test, and each passes its test
abbrev pub pass_each : List (ℕ → Bool) → List ℕ → Bool
pass_each [] [] = true
pass_each [] (c ∷ cs) = false
pass_each (p ∷ ps) [] = false
pass_each (p ∷ ps) (c ∷ cs) = p c && pass_each ps cs
