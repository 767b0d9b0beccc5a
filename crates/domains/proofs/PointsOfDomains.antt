-- The points of a list of domains: which they are, how many values each has, and that they rise.
-- Used by the proofs on halves, strips and the next point, and by the laws on points.
use Rattle.std.proofs.Common.{◌≡◌, inl, inr, suc, List, [], ◌∷◌, ◌++◌, length, All, slice_index_or, map, refl, ap, subst, ◌∙◌, arith, flat_map, ℤ, ◌<ℤ◌}
use Rattle.std.specs.Ordering.{int_cmp, ordering_then}
use Rattle.std.specs.Cmp.Lexicographic.{slice_cmp}
use Rattle.std.specs.declared.cmp.Ordering.TheVariants.{Less, Equal}
use Rattle.std.proofs.lemmas.Int.{ints}
use Rattle.domains.specs.declared.dom.Dom.{Dom}
use Rattle.domains.specs.Values.{values_of}
use Rattle.domains.specs.Points.{Point, points_of, IsInBox, ComesBefore}
use Rattle.domains.specs.VarBoxes.{points_in}
use Rattle.lists.proofs.Members.{IsIn, in_at, in_append_left, in_append_right, in_append_cases, in_map, in_map_cases}
use Rattle.lists.proofs.Rising.{Rises, rises_append, rises_map}
use Rattle.domains.proofs.Values.{in_values, in_values_cases, rises_values}

-- ---- rows: each point with one value before it

abbrev pub row_of : List Point → ℤ → List Point
row_of points v = map (λ p. v ∷ p) points

pub in_rows_cases : (vs : List ℤ) (points : List Point) (q : Point) → IsIn q (flat_map (row_of points) vs) → (v : ℤ) × (p : Point) × IsIn v vs × IsIn p points × (v ∷ p ≡ q)
in_rows_cases [] points q h = elim h [ ]
in_rows_cases (v ∷ vs) points q h =
    elim (in_append_cases (row_of points v) (flat_map (row_of points) vs) q h) [
      | inl a ↦ (let c = in_map_cases (λ (p : Point). v ∷ p) points q a in (v, c.0, inl refl, c.1, c.2))
      | inr b ↦ (let c = in_rows_cases vs points q b in (c.0, c.1, inr c.2, c.3, c.4))
    ]

in_rows : (vs : List ℤ) (points : List Point) (v : ℤ) (p : Point) → IsIn v vs → IsIn p points → IsIn (v ∷ p) (flat_map (row_of points) vs)
in_rows [] points v p h i = elim h [ ]
in_rows (w ∷ vs) points v p (inl e) i =
    subst (λ u. IsIn (u ∷ p) (row_of points w ++ flat_map (row_of points) vs)) e
    (in_append_left (row_of points w) (flat_map (row_of points) vs) (w ∷ p) (in_map (λ (q : Point). w ∷ q) points p i))
in_rows (w ∷ vs) points v p (inr h) i =
    in_append_right (row_of points w) (flat_map (row_of points) vs) (v ∷ p) (in_rows vs points v p h i)

-- ---- points of a box

pub in_points_cases : (box : List Dom) (p : Point) → IsIn p (points_of box) → IsInBox box p
in_points_cases [] p (inl e) = subst (IsInBox []) e tt
in_points_cases [] p (inr h) = elim h [ ]
in_points_cases (d ∷ ds) p h =
    let c = in_rows_cases (values_of d) (points_of ds) p h in
    let w = in_values_cases d c.0 c.2 in
    subst (IsInBox (d ∷ ds)) c.4 (w.0, w.1, in_points_cases ds c.1 c.3)

pub in_points : (box : List Dom) (p : Point) → IsInBox box p → IsIn p (points_of box)
in_points [] [] h = inl refl
in_points [] (x ∷ p) h = elim h [ ]
in_points (d ∷ ds) [] h = elim h [ ]
in_points (d ∷ ds) (x ∷ p) h = in_rows (values_of d) (points_of ds) x p (in_values d x h.0 h.1) (in_points ds p h.2)

in_box_length : (box : List Dom) (p : Point) → IsInBox box p → length p ≡ length box
in_box_length [] [] h = refl
in_box_length [] (x ∷ p) h = elim h [ ]
in_box_length (d ∷ ds) [] h = elim h [ ]
in_box_length (d ∷ ds) (x ∷ p) h = ap suc (in_box_length ds p h.2)

-- each point has a value for each domain
pub length_of_points : (ds : List Dom) → All (λ p. length p ≡ length ds) (points_of ds)
length_of_points ds k d below =
    let p = slice_index_or (points_of ds) k d in in_box_length ds p (in_points_cases ds p (in_at (points_of ds) k d below))

pub length_of_points_in : (box : List Dom) → All (λ p. length p ≡ length box) (points_in box)
length_of_points_in [] = λ k d below. absurd (omega (arith, below))
length_of_points_in (d ∷ ds) = length_of_points (d ∷ ds)

-- ---- their order

int_cmp-less : (x y : ℤ) → x <ℤ y → int_cmp x y ≡ Less
int_cmp-less x y h = grind (arith, ints)

pub int_cmp-itself : (x : ℤ) → int_cmp x x ≡ Equal
int_cmp-itself x = grind (arith, ints)

pub first_decides : (x y : ℤ) (p q : Point) → x <ℤ y → ComesBefore (x ∷ p) (y ∷ q)
first_decides x y p q h = ap (λ o. ordering_then o (slice_cmp int_cmp p q)) (int_cmp-less x y h)

pub rest_decides : (x : ℤ) (p q : Point) → ComesBefore p q → ComesBefore (x ∷ p) (x ∷ q)
rest_decides x p q h = ap (λ o. ordering_then o (slice_cmp int_cmp p q)) (int_cmp-itself x) ∙ h

rises_rows : (vs : List ℤ) (points : List Point) → Rises (λ (a b : ℤ). a <ℤ b) vs → Rises ComesBefore points → Rises ComesBefore (flat_map (row_of points) vs)
rises_rows [] points r s = tt
rises_rows (v ∷ vs) points r s =
    rises_append ComesBefore (row_of points v) (flat_map (row_of points) vs)
    (rises_map ComesBefore ComesBefore (λ (p : Point). v ∷ p) (rest_decides v) points s)
    (rises_rows vs points r.1 s)
    (λ x y a b.
    let c = in_map_cases (λ (p : Point). v ∷ p) points x a in
    let d = in_rows_cases vs points y b in
    subst (λ z. ComesBefore z y) c.2 (subst (ComesBefore (v ∷ c.0)) d.4 (first_decides v d.0 c.0 d.1 (r.0 d.0 d.2))))

pub rises_points : (box : List Dom) → Rises ComesBefore (points_of box)
rises_points [] = ((λ y h. elim h [ ]), tt)
rises_points (d ∷ ds) = rises_rows (values_of d) (points_of ds) (rises_values d) (rises_points ds)
