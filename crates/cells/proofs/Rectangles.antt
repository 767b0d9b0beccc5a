-- Rectangles that meet, and rectangles inside others.
-- Used by the proofs of `inside` and `rectangles_meet`.
use Rattle.std.proofs.Common.{◌≡◌, ℕ, zero, suc, ◌<◌, min, max, Bool, false, ◌&&◌, List, length, map, refl, sym, ap, ◌∙◌, arith, IsTrue}
use Rattle.std.specs.Prelude.{zip}
use Rattle.std.proofs.lemmas.Bool.{and_parts}
use Rattle.std.proofs.lemmas.List.{length-map}
use Rattle.std.proofs.lemmas.Slice.Zip.{length-zip}
use Rattle.grids.proofs.Ends.{some_place, between-meet, between-inside}
use Rattle.cells.specs.Rects.{rect_contains, area_of, meet_of, LiesInside, HasDimensions}
use Rattle.cells.specs.declared.rect.Rect.{Rect}

pub inside-empty : (r s : Rect) → area_of r ≡ 0 → LiesInside r s
inside-empty r s none at h = absurd (let some = some_place r.from r.to at h in omega (arith, none))

pub rect_contains-meet : (d : ℕ) (r s : Rect) (at : List ℕ) → HasDimensions d r → HasDimensions d s → rect_contains (meet_of r s) at ≡ (rect_contains r at && rect_contains s at)
rect_contains-meet d r s at p q = between-meet r.from r.to s.from s.to at (omega arith) (omega arith) (omega arith)

meet-length : (f : ℕ → ℕ → ℕ) (d : ℕ) (xs ys : List ℕ) → length xs ≡ d → length ys ≡ d → length (map (λ (x, y). f x y) (zip xs ys)) ≡ d
meet-length f d xs ys h i = length-map (zip xs ys) (λ (x, y). f x y) ∙ length-zip xs ys ∙ omega (arith, h, i)

pub meet-dimensions : (d : ℕ) (r s : Rect) → HasDimensions d r → HasDimensions d s → HasDimensions d (meet_of r s)
meet-dimensions d r s p q = (meet-length max d r.from s.from p.0 q.0, meet-length min d r.to s.to p.1 q.1)

pub inside-met : (d : ℕ) (r s : Rect) → HasDimensions d r → HasDimensions d s → meet_of r s ≡ r → LiesInside r s
inside-met d r s p q e at h =
    (and_parts (rect_contains r at) (rect_contains s at) (sym (rect_contains-meet d r s at p q) ∙ ap (λ x. rect_contains x at) e ∙ h)).1

pub meets-inside : (d : ℕ) (r s : Rect) → HasDimensions d r → 0 < area_of r → LiesInside r s → meet_of r s ≡ r
meets-inside d r s p some h = let e = between-inside r.from r.to s.from s.to (omega arith) some h in (λ i. record { from = e.0 i; to = e.1 i })

-- if a test for no cells fails, there are some
pub some_area : (b : Bool) (r : Rect) → b ≡ false → (area_of r ≡ 0 → IsTrue b) → 0 < area_of r
some_area b r fails none = by_number (area_of r) none
  where
    by_number : (n : ℕ) → (n ≡ 0 → IsTrue b) → 0 < n
    by_number zero h = let holds = h refl in cc
    by_number (suc n) h = omega arith
