-- Boxes of variables, each seen as the list of its domains. The empty box has none.
-- Used by most functions here, and by the crates above for the box of a query and its points.
use Rattle.std.specs.Prelude.{ℕ, ◌*◌, ◌≤◌, Bool, List, [], ◌∷◌, length, map, slice_set, if◌then◌else◌}
use Rattle.std.specs.List.{list_all}
use Rattle.domains.specs.declared.dom.Dom.{Dom}
use Rattle.domains.specs.Values.{HasValue, has_value, size_of}
use Rattle.domains.specs.Points.{Point, points_of, points_after}

-- each domain has a value
abbrev pub HaveValues : List Dom → Type 0
HaveValues [] = Unit {0}
HaveValues (d ∷ ds) = HasValue d × HaveValues ds

-- at most 8 domains, each of which has a value
pub record IsBox (box : List Dom) : Type 0 where
  pub few : length box ≤ 8
  pub values : HaveValues box

-- the points of a box, in order; the empty box has none
abbrev pub points_in : List Dom → List Point
points_in [] = []
points_in (d ∷ ds) = points_of (d ∷ ds)

-- the product of the sizes of the domains
abbrev pub size_product : List Dom → ℕ
size_product [] = 1
size_product (d ∷ ds) = size_of d * size_product ds

-- the lowest corner: the least value of each variable
abbrev pub lowest : List Dom → Point
lowest box = map (λ d. d.lo) box

-- a point, if there is one more, and the points after it
abbrev pub points_left : List Dom → Point → Bool → List Point
points_left box next more = if more then next ∷ points_after box next else []

-- the box of these domains. If one of them has no value, it is empty
abbrev pub box_from : List Dom → List Dom
box_from ds = if list_all has_value ds then ds else []

-- the box with this domain for a variable. If the domain has no value, it is empty
abbrev pub box_with : List Dom → ℕ → Dom → List Dom
box_with box v d = if has_value d then slice_set box v d else []
