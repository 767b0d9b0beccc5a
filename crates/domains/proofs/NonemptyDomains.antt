-- Domains and boxes that are not empty, as a test and as a fact, and the first point of a box.
-- Used by the functions of `VarBox`, and by Widest and HalvesOrder.
use Rattle.std.proofs.Common.{◌≡◌, ℕ, zero, suc, ◌<◌, Bool, true, false, ◌&&◌, List, [], ◌∷◌, length, set, get_or, take, drop, refl, ap, sym, ◌∙◌, subst, arith, rules, IsTrue, nat_eq, nat_lt, slice_get, Some, IfSome, ℤ, ◌<ℤ◌, flat_map, cond, ◌↔◌}
use Rattle.std.specs.List.{list_all}
use Rattle.std.proofs.lemmas.Int.{ints}
use Rattle.std.proofs.lemmas.Bool.{and_parts, lt-ltb}
use Rattle.domains.specs.declared.dom.Dom.{Dom}
use Rattle.domains.specs.Values.{HasValue, has_value, integers_from, values_of}
use Rattle.domains.specs.Points.{points_of, points_after}
use Rattle.domains.specs.VarBoxes.{HaveValues, points_in, points_left, lowest, box_from}
use Rattle.domains.specs.Splits.{no_domain}
use Rattle.domains.specs.Padded.{IsPadded}
use Rattle.domains.proofs.Padding.{length_padded}
use Rattle.domains.proofs.Values.{size_none}
use Rattle.domains.proofs.PointsOfDomains.{row_of}
use Rattle.domains.proofs.NextPoint.{points_of-lowest}

pub has_value-true : (d : Dom) → has_value d ≡ true → HasValue d
has_value-true d h = grind (arith, ints)

pub true-has_value : (d : Dom) → HasValue d → has_value d ≡ true
true-has_value d h = grind (arith, ints)

pub false-has_value : (d : Dom) → d.hi <ℤ d.lo → has_value d ≡ false
false-has_value d h = grind (arith, ints)

pub have_values : (ds : List Dom) → list_all has_value ds ≡ true → HaveValues ds
have_values [] h = tt
have_values (d ∷ ds) h = let p = and_parts (has_value d) (list_all has_value ds) h in (has_value-true d p.0, have_values ds p.1)

pub values_at : (ds : List Dom) (v : ℕ) (e : Dom) → HaveValues ds → v < length ds → HasValue (get_or ds v e)
values_at [] v e h below = absurd (omega arith)
values_at (d ∷ ds) zero e h below = h.0
values_at (d ∷ ds) (suc v) e h below = values_at ds v e h.1 (omega arith)

pub values_get : (ds : List Dom) (v : ℕ) → HaveValues ds → IfSome (slice_get ds v) HasValue
values_get [] v h = tt
values_get (d ∷ ds) zero h = h.0
values_get (d ∷ ds) (suc v) h = values_get ds v h.1

pub values_set : (ds : List Dom) (v : ℕ) (d : Dom) → HaveValues ds → HasValue d → HaveValues (set ds v d)
values_set [] v d h k = tt
values_set (x ∷ ds) zero d h k = (k, h.1)
values_set (x ∷ ds) (suc v) d h k = (h.0, values_set ds v d h.1 k)

pub values_drop : (ds : List Dom) (n : ℕ) → HaveValues ds → HaveValues (drop n ds)
values_drop ds zero h = h
values_drop [] (suc n) h = tt
values_drop (d ∷ ds) (suc n) h = values_drop ds n h.1

-- ---- domains without values have no points

has_value-false : (d : Dom) → has_value d ≡ false → d.hi <ℤ d.lo
has_value-false d h = grind (arith, ints)

rows_none : (vs : List ℤ) → flat_map (row_of []) vs ≡ []
rows_none [] = refl
rows_none (v ∷ vs) = rows_none vs

pub points_none : (ds : List Dom) → list_all has_value ds ≡ false → points_of ds ≡ []
points_none [] h = absurd (cc)
points_none (d ∷ ds) h = by_head (has_value d) refl (points_none ds)
  where
    by_head : (b : Bool) → has_value d ≡ b → (list_all has_value ds ≡ false → points_of ds ≡ []) → points_of (d ∷ ds) ≡ []
    by_head true e rest = ap (λ points. flat_map (row_of points) (values_of d)) (rest (ap (λ b. b && list_all has_value ds) (sym e) ∙ h)) ∙ rows_none (values_of d)
    by_head false e rest = ap (λ n. flat_map (row_of (points_of ds)) (integers_from d.lo n)) (size_none d (has_value-false d e))

-- the points of the box of some domains are those of the domains
pub points_in-box_from : (ds : List Dom) → 0 < length ds → points_in (box_from ds) ≡ points_of ds
points_in-box_from [] h = absurd (omega arith)
points_in-box_from (d ∷ ds) h = by_test (list_all has_value (d ∷ ds)) refl
  where
    by_test : (b : Bool) → list_all has_value (d ∷ ds) ≡ b → points_in (cond b (d ∷ ds) []) ≡ points_of (d ∷ ds)
    by_test true e = refl
    by_test false e = sym (points_none (d ∷ ds) e)

-- the empty box alone has no points
pub no_points : (box : List Dom) → HaveValues box → points_in box ≡ [] → box ≡ []
no_points [] h e = refl
no_points (d ∷ ds) h e = let first = points_of-lowest (d ∷ ds) h in absurd (cc)

pub no_vars : (n : ℕ) (items now : List Dom) → IsPadded no_domain n items × HaveValues (take n items) → take n items ≡ now
    → (IsTrue (nat_eq n 0) ↔ (points_in now ≡ [])) × (IsTrue (nat_eq n 0) ↔ (now ≡ []))
no_vars zero items now h e = ((λ t. ap points_in (sym e), λ t. refl), (λ t. sym e, λ t. refl))
no_vars (suc n) items now h e =
    let long = length_padded no_domain (suc n) items now h.0 e in (
      (λ t. absurd (search rules), λ none. let empty = no_points now (subst HaveValues e h.1) none in absurd (omega (arith, long, ap length empty))),
      (λ t. absurd (search rules), λ empty. absurd (omega (arith, long, ap length empty))),
    )

-- ---- the first point

pub first_point : (box : List Dom) → HaveValues box → 0 < length box → slice_get (points_in box) 0 ≡ Some (lowest box)
first_point [] h some = absurd (omega arith)
first_point (d ∷ ds) h some = ap (λ points. slice_get points 0) (points_of-lowest (d ∷ ds) h)

pub points_start : (box : List Dom) → HaveValues box → points_left box (lowest box) (nat_lt 0 (length box)) ≡ points_in box
points_start [] h = refl
points_start (d ∷ ds) h =
    ap (λ t. cond t (lowest (d ∷ ds) ∷ points_after (d ∷ ds) (lowest (d ∷ ds))) []) (lt-ltb 0 (suc (length ds)) (omega arith))
    ∙ sym (points_of-lowest (d ∷ ds) h)
