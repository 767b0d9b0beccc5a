-- The strips of a box have its points, in order.
-- Used by the law `strips_share_out`.
use Rattle.std.proofs.Common.{◌≡◌, ℕ, zero, suc, ◌+◌, ◌-◌, ◌*◌, ◌/◌, ◌<◌, ◌≤◌, List, [], ◌∷◌, ◌++◌, map, flat_map, refl, ap, ap₂, sym, ◌∙◌, arith, pos, ◌+ℤ◌, append-nil}
use Rattle.std.specs.List.{range_with_len}
use Rattle.std.proofs.lemmas.Int.{ints}
use Rattle.std.proofs.lemmas.Nat.{le-div, div-mul-add}
use Rattle.std.proofs.lemmas.Grind.{flat_map-append}
use Rattle.std.proofs.Math.Nat.{mul-le-mul_right, div-mul-le_self, zero-mul, zero-div, mul_comm}
use Rattle.lists.proofs.Ranges.{range_with_len-add}
use Rattle.domains.specs.declared.dom.Dom.{Dom}
use Rattle.domains.specs.Values.{size_of, values_of, integers_from}
use Rattle.domains.specs.Points.{Point, points_of, IsInBox, ComesBefore, AllComeBefore}
use Rattle.domains.specs.VarBoxes.{HaveValues, IsBox, points_in}
use Rattle.domains.specs.Strips.{strip_count, strip_of, strips_of, cut_at, part_of}
use Rattle.domains.proofs.Values.{size_is, size_some, integers_from-add}
use Rattle.domains.proofs.PointsOfDomains.{row_of, first_decides}
use Rattle.domains.proofs.Halves.{contains_cases}

range_more : (k : ℕ) → range_with_len 0 (k + 1) ≡ range_with_len 0 k ++ k ∷ []
range_more k = let same : 0 + k ≡ k = omega arith in range_with_len-add 0 k 1 ∙ ap (λ j. range_with_len 0 k ++ j ∷ []) same

-- ---- where the parts of a domain begin

cut_none : (d : Dom) (n : ℕ) → 0 < n → cut_at d 0 n ≡ 0
cut_none d n h = ap (λ k. k / n) (zero-mul (size_of d)) ∙ zero-div n

cut_all : (d : Dom) (n : ℕ) → 0 < n → cut_at d n n ≡ size_of d
cut_all d n h =
    let e : n * size_of d ≡ size_of d * n + 0 = omega (arith, mul_comm n (size_of d)) in
    ap (λ k. k / n) e ∙ div-mul-add (size_of d) n 0 h

-- of no more parts than values each part has one
cut_more : (d : Dom) (i n : ℕ) → 0 < n → n ≤ size_of d → cut_at d i n < cut_at d (i + 1) n
cut_more d i n h few =
    let s = size_of d in
    let q : i * s / n * n ≤ i * s = div-mul-le_self (i * s) n in
    let next : (i + 1) * s ≡ i * s + s = omega arith in
    let step : (i * s / n + 1) * n ≤ (i + 1) * s = omega (arith, q, next, few) in
    omega (arith, le-div (i * s / n + 1) ((i + 1) * s) n h step)

cut_rises : (d : Dom) (i j n : ℕ) → 0 < n → i ≤ j → cut_at d i n ≤ cut_at d j n
cut_rises d i j n some h =
    let s = size_of d in
    let q : i * s / n * n ≤ i * s = div-mul-le_self (i * s) n in
    let more : i * s ≤ j * s = mul-le-mul_right s h in
    le-div (i * s / n) (j * s) n some (omega (arith, q, more))

-- ---- their values, one part after the other

part_values : (d : Dom) (i n : ℕ) → 0 < n → values_of (part_of d i n) ≡ integers_from (d.lo +ℤ pos (cut_at d i n)) (cut_at d (i + 1) n - cut_at d i n)
part_values d i n some =
    let part = part_of d i n in
    let rises = cut_rises d i (i + 1) n some (omega arith) in
    let e = size_is part (omega (arith, ints, rises)) in
    let size : size_of part ≡ cut_at d (i + 1) n - cut_at d i n = omega (arith, ints, rises, e) in
    ap (integers_from part.lo) size

first_parts_values : (d : Dom) (n k : ℕ) → 0 < n → flat_map (λ i. values_of (part_of d i n)) (range_with_len 0 k) ≡ integers_from d.lo (cut_at d k n)
first_parts_values d n zero h = ap (integers_from d.lo) (sym (cut_none d n h))
first_parts_values d n (suc k) h =
    let part = λ (i : ℕ). values_of (part_of d i n) in
    let rises = cut_rises d k (k + 1) n h (omega arith) in
    let next : suc k ≡ k + 1 = omega arith in
    let sum : cut_at d k n + (cut_at d (k + 1) n - cut_at d k n) ≡ cut_at d (k + 1) n = omega (arith, rises) in
    ap (λ m. flat_map part (range_with_len 0 m)) next
    ∙ ap (flat_map part) (range_more k)
    ∙ flat_map-append part (range_with_len 0 k) (k ∷ [])
    ∙ ap₂ ◌++◌ (first_parts_values d n k h) (append-nil (part k) ∙ part_values d k n h)
    ∙ sym (integers_from-add (cut_at d k n) (cut_at d (k + 1) n - cut_at d k n) d.lo)
    ∙ ap (integers_from d.lo) sum
    ∙ ap (λ m. integers_from d.lo (cut_at d m n)) (sym next)

all_values : (d : Dom) (n : ℕ) → 0 < n → flat_map (λ i. values_of (part_of d i n)) (range_with_len 0 n) ≡ values_of d
all_values d n h = first_parts_values d n n h ∙ ap (integers_from d.lo) (cut_all d n h)

-- ---- the points of the strips

flat_map-map : {X Y Z : Type 0} (f : Y → List Z) (g : X → Y) (xs : List X) → flat_map f (map g xs) ≡ flat_map (λ x. f (g x)) xs
flat_map-map f g [] = refl
flat_map-map f g (x ∷ xs) = ap (λ l. f (g x) ++ l) (flat_map-map f g xs)

flat_map-flat_map : {X Y Z : Type 0} (f : Y → List Z) (g : X → List Y) (xs : List X) → flat_map f (flat_map g xs) ≡ flat_map (λ x. flat_map f (g x)) xs
flat_map-flat_map f g [] = refl
flat_map-flat_map f g (x ∷ xs) = flat_map-append f (g x) (flat_map g xs) ∙ ap (λ l. flat_map f (g x) ++ l) (flat_map-flat_map f g xs)

pub strips_points : (box : List Dom) (asked : ℕ) → HaveValues box → 0 < asked → flat_map points_in (strips_of box (strip_count box asked)) ≡ points_in box
strips_points [] asked h some = refl
strips_points (d ∷ ds) asked h some =
    let n = strip_count (d ∷ ds) asked in
    let rows = flat_map (row_of (points_of ds)) in
    let part = λ (i : ℕ). values_of (part_of d i n) in
    flat_map-map points_in (λ i. strip_of (d ∷ ds) i n) (range_with_len 0 n)
    ∙ sym (flat_map-flat_map (row_of (points_of ds)) part (range_with_len 0 n))
    ∙ ap rows (all_values d n (omega (arith, size_some d h.0)))

pub strips_order : (box : List Dom) (asked i j : ℕ) → HaveValues box → i < j → j < strip_count box asked
    → AllComeBefore (points_in (strip_of box i (strip_count box asked))) (points_in (strip_of box j (strip_count box asked)))
strips_order [] asked i j h less below p q a b = absurd (omega (arith, a.1))
strips_order (d ∷ ds) asked i j h less below p q a b =
    let n = strip_count (d ∷ ds) asked in
    apart p q (contains_cases (strip_of (d ∷ ds) i n) p a) (contains_cases (strip_of (d ∷ ds) j n) q b)
  where
    apart : (p q : Point) → IsInBox (part_of d i (strip_count (d ∷ ds) asked) ∷ ds) p → IsInBox (part_of d j (strip_count (d ∷ ds) asked) ∷ ds) q → ComesBefore p q
    apart [] q a b = absurd a
    apart (x ∷ p) [] a b = absurd b
    apart (x ∷ p) (y ∷ q) a b =
        let rises = cut_rises d (i + 1) j (strip_count (d ∷ ds) asked) (omega arith) (omega arith) in
        first_decides x y p q (omega (arith, ints, a.1, b.0, rises))

pub strips_boxes : (box : List Dom) (asked i : ℕ) → IsBox box → i < strip_count box asked → IsBox (strip_of box i (strip_count box asked))
strips_boxes [] asked i h below = record { few = omega arith; values = tt }
strips_boxes (d ∷ ds) asked i h below =
    let n = strip_count (d ∷ ds) asked in
    let more = cut_more d i n (omega arith) (omega arith) in
    record { few = h.few; values = (omega (arith, ints, more), h.values.1) }
