-- Boxes that lie within each other, and how wide a box is.
-- Used by the laws on boxes within each other, and by `query_model` for the solutions of such boxes.
use Rattle.std.specs.Prelude.{ℕ, List, [], ◌∷◌, ◌≤ℤ◌}
use Rattle.std.specs.List.{sum_by}
use Rattle.domains.specs.declared.dom.Dom.{Dom}
use Rattle.domains.specs.Values.{size_of}

-- each domain lies within the one of the same variable, and there are as many
abbrev pub LieWithin : List Dom → List Dom → Type 0
LieWithin [] [] = Unit {0}
LieWithin [] (e ∷ es) = ⊥
LieWithin (d ∷ ds) [] = ⊥
LieWithin (d ∷ ds) (e ∷ es) = (e.lo ≤ℤ d.lo) × (d.hi ≤ℤ e.hi) × LieWithin ds es

-- the first box lies within the second: it is empty, or its domains lie within those of the other
abbrev pub IsBoxWithin : List Dom → List Dom → Type 0
IsBoxWithin [] box = Unit {0}
IsBoxWithin (d ∷ ds) box = LieWithin (d ∷ ds) box

-- how wide a box is: the number of values of each variable, added up; 0 for the empty box
abbrev pub width_of : List Dom → ℕ
width_of box = sum_by size_of box
