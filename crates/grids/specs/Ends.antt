-- Rectangles by their ends: the first coordinates, and those past the last.
-- Used by `cells`, `chunk_copies` and `chunk_store`, and in this crate.
use Rattle.std.specs.Prelude.{ℕ, nat_le, nat_lt, Bool, true, false, ◌&&◌, List, [], ◌∷◌}

-- each coordinate is at its first end or after it, and before its last one
abbrev pub is_between_ends : List ℕ → List ℕ → List ℕ → Bool
is_between_ends [] [] [] = true
is_between_ends [] [] (c ∷ cs) = false
is_between_ends [] (t ∷ ts) cs = false
is_between_ends (f ∷ fs) [] cs = false
is_between_ends (f ∷ fs) (t ∷ ts) [] = false
is_between_ends (f ∷ fs) (t ∷ ts) (c ∷ cs) = (nat_le f c && nat_lt c t) && is_between_ends fs ts cs
