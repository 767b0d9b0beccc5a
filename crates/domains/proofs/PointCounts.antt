-- How many points a list of domains has.
-- Used by `volume` and `point`, by the law `points_are_counted`, and by Widest and HalvesOrder.
use Rattle.std.proofs.Common.{◌≡◌, ℕ, zero, suc, ◌+◌, ◌*◌, ◌<◌, ◌≤◌, List, [], ◌∷◌, length, take, get_or, refl, ap, sym, ◌∙◌, arith, flat_map, ℤ, add-one, length-append, take_all, ◌≢◌, true, false, inl, inr, slice_get, MatchOption, ◌≤ℤ◌, ◌<ℤ◌}
use Rattle.std.specs.List.{list_all}
use Rattle.std.proofs.lemmas.Int.{ints}
use Rattle.std.proofs.lemmas.Bool.{and_parts, and_cases}
use Rattle.std.proofs.lemmas.List.{length-map}
use Rattle.std.proofs.Math.Nat.{mul_assoc, mul-le-mul_left, mul-le-mul}
use Rattle.domains.specs.declared.dom.Dom.{Dom}
use Rattle.domains.specs.Values.{HasValue, has_one_value, values_of, size_of}
use Rattle.domains.specs.Points.{Point, points_of}
use Rattle.domains.specs.VarBoxes.{HaveValues, points_in, size_product}
use Rattle.domains.proofs.Values.{length-integers_from, size_some, size_is}
use Rattle.domains.proofs.PointsOfDomains.{row_of}

length-rows : (points : List Point) (vs : List ℤ) → length (flat_map (row_of points) vs) ≡ length vs * length points
length-rows points [] = omega arith
length-rows points (v ∷ vs) =
    let rest = length-rows points vs in
    let row = length-map points (λ (p : Point). v ∷ p) in
    length-append (row_of points v) (flat_map (row_of points) vs) ∙ omega (arith, rest, row)

pub length-points_of : (ds : List Dom) → length (points_of ds) ≡ size_product ds
length-points_of [] = refl
length-points_of (d ∷ ds) =
    length-rows (points_of ds) (values_of d) ∙ (λ i. length-integers_from d.lo (size_of d) i * length-points_of ds i)

pub product_some : (ds : List Dom) → HaveValues ds → 0 < size_product ds
product_some [] h = omega arith
product_some (d ∷ ds) h =
    let a = size_some d h.0 in let b = product_some ds h.1 in
    let c : size_of d * 1 ≤ size_of d * size_product ds = mul-le-mul_left (size_of d) b in omega (arith, a, c)

-- one more domain
pub product_more : (ds : List Dom) (i : ℕ) (e : Dom) → i < length ds → size_product (take (i + 1) ds) ≡ size_product (take i ds) * size_of (get_or ds i e)
product_more ds i e h = ap (λ n. size_product (take n ds)) (add-one i) ∙ at ds i h
  where
    at : (ds : List Dom) (i : ℕ) → i < length ds → size_product (take (suc i) ds) ≡ size_product (take i ds) * size_of (get_or ds i e)
    at [] i h = absurd (omega arith)
    at (d ∷ ds) zero h = omega arith
    at (d ∷ ds) (suc i) h = ap (λ n. size_of d * n) (at ds i (omega arith)) ∙ sym (mul_assoc (size_of d) (size_product (take i ds)) (size_of (get_or ds i e)))

-- the first domains have no more points than all
pub product_take : (ds : List Dom) (i : ℕ) → HaveValues ds → size_product (take i ds) ≤ size_product ds
product_take ds zero h = product_some ds h
product_take [] (suc i) h = omega arith
product_take (d ∷ ds) (suc i) h = mul-le-mul_left (size_of d) (product_take ds i h.1)

-- ---- the product as the loop makes it

pub length_in : (box : List Dom) → 0 < length box → length (points_in box) ≡ size_product box
length_in [] h = absurd (omega arith)
length_in (d ∷ ds) h = length-points_of (d ∷ ds)

pub volume_step : (box : List Dom) (i total size : ℕ) (e : Dom) → HaveValues box → i < length box → total ≡ size_product (take i box) → size ≡ size_of (get_or box i e)
    → (total * size ≡ size_product (take (i + 1) box)) × (total * size ≤ length (points_in box))
volume_step box i total size e values below is_total is_size =
    let more : total * size ≡ size_product (take (i + 1) box) = (λ k. is_total k * is_size k) ∙ sym (product_more box i e below) in
    (more, omega (arith, more, product_take box (i + 1) values, length_in box (omega arith)))

pub volume_all : (box : List Dom) (i total : ℕ) → 0 < length box → length box ≤ i → total ≡ size_product (take i box) → total ≡ length (points_in box)
volume_all box i total some end is_total = is_total ∙ ap size_product (take_all i box end) ∙ sym (length_in box some)

-- ---- one point

size_one : (d : Dom) → HasValue d → has_one_value d ≡ true → size_of d ≡ 1
size_one d h one =
    let same : d.hi ≤ℤ d.lo = grind (arith, ints, one) in let e = size_is d (omega (arith, ints)) in omega (arith, ints, e)

size_several : (d : Dom) → has_one_value d ≡ false → 1 < size_of d
size_several d two =
    let less : d.lo <ℤ d.hi = grind (arith, ints, two) in let e = size_is d (omega (arith, ints)) in omega (arith, ints, e)

product_one : (ds : List Dom) → HaveValues ds → list_all has_one_value ds ≡ true → size_product ds ≡ 1
product_one [] h one = refl
product_one (d ∷ ds) h one =
    let p = and_parts (has_one_value d) (list_all has_one_value ds) one in
    (λ i. size_one d h.0 p.0 i * product_one ds h.1 p.1 i)

product_several : (ds : List Dom) → HaveValues ds → list_all has_one_value ds ≡ false → 1 < size_product ds
product_several [] h two = absurd (cc)
product_several (d ∷ ds) h two =
    let size = size_some d h.0 in
    elim (and_cases (has_one_value d) (list_all has_one_value ds) two) [
      | inl here ↦ (let a : 2 * 1 ≤ size_of d * size_product ds = mul-le-mul (size_several d here) (product_some ds h.1) in omega (arith, a))
      | inr later ↦ (let b : 1 * 2 ≤ size_of d * size_product ds = mul-le-mul size (product_several ds h.1 later) in omega (arith, b))
    ]

-- the answer if no domain has two values: the first point, if there is one
pub one_point : (box : List Dom) → HaveValues box → list_all has_one_value box ≡ true → MatchOption (slice_get (points_in box) 0) (length (points_in box) ≢ 1) (λ p. points_in box ≡ p ∷ [])
one_point [] h one = (λ e. omega (arith, e))
one_point (d ∷ ds) h one = alone (points_of (d ∷ ds)) (length-points_of (d ∷ ds) ∙ product_one (d ∷ ds) h one)
  where
    alone : (points : List Point) → length points ≡ 1 → MatchOption (slice_get points 0) (length points ≢ 1) (λ p. points ≡ p ∷ [])
    alone [] e = absurd (omega (arith, e))
    alone (p ∷ []) e = refl
    alone (p ∷ q ∷ rest) e = absurd (omega (arith, e))

pub several_points : (box : List Dom) → HaveValues box → list_all has_one_value box ≡ false → length (points_in box) ≢ 1
several_points [] h two = absurd (cc)
several_points (d ∷ ds) h two = (λ e. let more = product_several (d ∷ ds) h two in omega (arith, e, more, length-points_of (d ∷ ds)))
