-- The point of a box that comes next.
-- Used by the iterator over the points of a box.
use Rattle.std.proofs.Common.{◌≡◌, ℕ, zero, suc, ◌<◌, List, [], ◌∷◌, ◌++◌, length, take, drop, get_or, map, refl, ap, sym, subst, append-nil, ◌∙◌, arith, flat_map, ℤ, pos, ◌+ℤ◌, ◌<ℤ◌, ◌≤ℤ◌, set}
use Rattle.std.proofs.lemmas.Int.{ints}
use Rattle.std.proofs.Math.Seq.{take-length, drop-length, drop-cons}
use Rattle.domains.specs.declared.dom.Dom.{Dom}
use Rattle.domains.specs.Values.{values_of, integers_from}
use Rattle.domains.specs.Points.{Point, points_of, points_after}
use Rattle.domains.specs.VarBoxes.{HaveValues, lowest}
use Rattle.domains.proofs.Values.{values_first, size_none}
use Rattle.domains.proofs.PointsOfDomains.{row_of}

-- the domain of the values above one
abbrev pub dom_above : Dom → ℤ → Dom
dom_above d x = record { lo = x +ℤ pos 1; hi = d.hi }

pub points_of-lowest : (ds : List Dom) → HaveValues ds → points_of ds ≡ lowest ds ∷ points_after ds (lowest ds)
points_of-lowest [] h = refl
points_of-lowest (d ∷ ds) h =
    ap (flat_map (row_of (points_of ds))) (values_first d h.0)
    ∙ ap (λ points. row_of points d.lo ++ flat_map (row_of (points_of ds)) (values_of (dom_above d d.lo))) (points_of-lowest ds h.1)

-- a value at the upper end, or above it, has none above it
values_end : (d : Dom) (x : ℤ) → d.hi ≤ℤ x → values_of (dom_above d x) ≡ []
values_end d x h = let e = size_none (dom_above d x) (omega (arith, ints)) in ap (λ n. integers_from (x +ℤ pos 1) n) e

-- the values above one that is below the upper end
values_next : (d : Dom) (x : ℤ) → x <ℤ d.hi → values_of (dom_above d x) ≡ (x +ℤ pos 1) ∷ values_of (dom_above d (x +ℤ pos 1))
values_next d x h = values_first (dom_above d x) (omega (arith, ints))

pub after_end : (d : Dom) (ds : List Dom) (x : ℤ) (p : Point) → d.hi ≤ℤ x → points_after ds p ≡ [] → points_after (d ∷ ds) (x ∷ p) ≡ []
after_end d ds x p h e =
    (λ i. map (λ (q : Point). x ∷ q) (e i) ++ flat_map (row_of (points_of ds)) (values_end d x h i))

after_next : (d : Dom) (ds : List Dom) (x : ℤ) (p : Point) → HaveValues ds → x <ℤ d.hi → points_after ds p ≡ []
    → points_after (d ∷ ds) (x ∷ p) ≡ ((x +ℤ pos 1) ∷ lowest ds) ∷ points_after (d ∷ ds) ((x +ℤ pos 1) ∷ lowest ds)
after_next d ds x p h below e =
    (λ i. map (λ (q : Point). x ∷ q) (e i) ++ flat_map (row_of (points_of ds)) (values_next d x below i))
    ∙ ap (λ points. row_of points (x +ℤ pos 1) ++ flat_map (row_of (points_of ds)) (values_of (dom_above d (x +ℤ pos 1)))) (points_of-lowest ds h)

-- the values of the variables before v stay, the value of v rises by one, and the others are the least
abbrev pub raised : List Dom → Point → ℕ → Point
raised ds p v = take v p ++ (get_or p v (pos 0) +ℤ pos 1) ∷ lowest (drop (suc v) ds)

pub after_raised : (ds : List Dom) (p : Point) (v : ℕ) (e : Dom) → HaveValues ds → v < length ds → length p ≡ length ds
    → get_or p v (pos 0) <ℤ (get_or ds v e).hi → points_after (drop (suc v) ds) (drop (suc v) p) ≡ []
    → points_after ds p ≡ raised ds p v ∷ points_after ds (raised ds p v)
after_raised [] p v e h within same below none = absurd (omega arith)
after_raised (d ∷ ds) [] v e h within same below none = absurd (cc)
after_raised (d ∷ ds) (x ∷ p) zero e h within same below none = after_next d ds x p h.1 below none
after_raised (d ∷ ds) (x ∷ p) (suc v) e h within same below none =
    ap (λ points. row_of points x ++ flat_map (row_of (points_of ds)) (values_of (dom_above d x)))
    (after_raised ds p v e h.1 (omega arith) (cc) below none)

-- ---- as the loop finds it: the variables from v on are at their greatest values, and are set to their least

pub record Reset (ds : List Dom) (from p : Point) (v : ℕ) : Type 0 where
  is : p ≡ take v from ++ lowest (drop v ds)
  none : points_after (drop v ds) (drop v from) ≡ []

pub reset_none : (ds : List Dom) (from : Point) → length from ≡ length ds → Reset ds from from (length ds)
reset_none ds from same =
    record {
      is = sym (append-nil from) ∙ (λ i. sym (take-length from) i ++ lowest (sym (drop-length ds) i)) ∙ ap (λ n. take n from ++ lowest (drop (length ds) ds)) same;
      none = (λ i. points_after (drop-length ds i) (drop (length ds) from));
    }

-- the first values of a point with others after them: the last of the first, read and changed
get_or-take_append : (p rest : Point) (w : ℕ) → w < length p → get_or (take (suc w) p ++ rest) w (pos 0) ≡ get_or p w (pos 0)
get_or-take_append [] rest w h = absurd (omega arith)
get_or-take_append (x ∷ p) rest zero h = refl
get_or-take_append (x ∷ p) rest (suc w) h = get_or-take_append p rest w (omega arith)

set-take_append : (p rest : Point) (w : ℕ) (y : ℤ) → w < length p → set (take (suc w) p ++ rest) w y ≡ take w p ++ y ∷ rest
set-take_append [] rest w y h = absurd (omega arith)
set-take_append (x ∷ p) rest zero y h = refl
set-take_append (x ∷ p) rest (suc w) y h = ap (λ l. x ∷ l) (set-take_append p rest w y (omega arith))

-- w is the variable before v, x its value, and d its domain
module _ (ds : List Dom) (from p : Point) (v w : ℕ) (x : ℤ) (d e : Dom) (values : HaveValues ds) (same : length from ≡ length ds) (below : w < length ds) (before : v ≡ suc w) (reset : Reset ds from p v)
    (is_value : x ≡ get_or p w (pos 0)) (is_dom : d ≡ get_or ds w e) where
  at_w : p ≡ take (suc w) from ++ lowest (drop (suc w) ds)
  at_w = reset.is ∙ ap (λ n. take n from ++ lowest (drop n ds)) before

  none_w : points_after (drop (suc w) ds) (drop (suc w) from) ≡ []
  none_w = ap (λ n. points_after (drop n ds) (drop n from)) (sym before) ∙ reset.none

  old_value : x ≡ get_or from w (pos 0)
  old_value = is_value ∙ ap (λ q. get_or q w (pos 0)) at_w ∙ get_or-take_append from (lowest (drop (suc w) ds)) w (omega arith)

  pub reset_next : x <ℤ d.hi → (y : ℤ) → y ≡ (x +ℤ pos 1) → (new : Point) → new ≡ set p w y → points_after ds from ≡ new ∷ points_after ds new
  reset_next less y is_next new is_new =
      let raises : new ≡ raised ds from w =
      is_new ∙ (λ i. set (at_w i) w (is_next i)) ∙ set-take_append from (lowest (drop (suc w) ds)) w (x +ℤ pos 1) (omega arith)
      ∙ ap (λ z. take w from ++ (z +ℤ pos 1) ∷ lowest (drop (suc w) ds)) old_value in
      after_raised ds from w e values below same (subst (λ z. z <ℤ (get_or ds w e).hi) old_value (subst (λ (f : Dom). x <ℤ f.hi) is_dom less)) none_w
      ∙ (λ i. sym raises i ∷ points_after ds (sym raises i))

  pub reset_more : d.hi ≤ℤ x → (new : Point) → new ≡ set p w d.lo → Reset ds from new w
  reset_more end new is_new =
      record {
        is = is_new ∙ ap (λ q. set q w d.lo) at_w ∙ set-take_append from (lowest (drop (suc w) ds)) w d.lo (omega arith)
            ∙ ap (λ (f : Dom). take w from ++ f.lo ∷ lowest (drop (suc w) ds)) is_dom ∙ ap (λ fs. take w from ++ lowest fs) (sym (drop-cons ds w e below));
        none = (λ i. points_after (drop-cons ds w e below i) (drop-cons from w (pos 0) (omega arith) i))
            ∙ after_end (get_or ds w e) (drop (suc w) ds) (get_or from w (pos 0)) (drop (suc w) from)
            (subst (λ z. (get_or ds w e).hi ≤ℤ z) old_value (subst (λ (f : Dom). f.hi ≤ℤ x) is_dom end)) none_w;
      }

pub reset_all : (ds : List Dom) (from p : Point) (v : ℕ) → v ≡ 0 → Reset ds from p v → points_after ds from ≡ []
reset_all ds from p v e h = ap (λ n. points_after (drop n ds) (drop n from)) (sym e) ∙ h.none
