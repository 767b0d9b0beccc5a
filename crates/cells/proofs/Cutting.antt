-- Regions that are cut to the array, as rectangles, and rectangles as regions.
-- Used by the proofs of `rect_of`, `rectangles_are_regions` and `regions_are_cut_to_the_array`.
use Rattle.std.proofs.Common.{◌≡◌, ℕ, ◌<◌, min, max, nat_lt, nat_le, true, ◌&&◌, int_le, int_lt, List, [], ◌∷◌, length, map, filter_map, ℤ, pos, negsuc, refl, sym, ap, ◌∙◌, arith}
use Rattle.std.specs.Prelude.{zip}
use Rattle.std.specs.List.{range_with_len}
use Rattle.std.proofs.lemmas.Bool.Decides.{nat_tests}
use Rattle.std.proofs.lemmas.Int.{ints}
use Rattle.lists.specs.Numbers.{product}
use Rattle.lists.proofs.Filters.{filter-agree}
use Rattle.lists.proofs.Ranges.{in_range}
use Rattle.grids.specs.Coordinates.{coordinates_of, in_bounds}
use Rattle.grids.proofs.Coordinates.{in_bounds-parts, in_bounds-coordinates_of}
use Rattle.cells.specs.Array.{Array, lies_in, number_at, present_cells}
use Rattle.cells.specs.Rects.{rect_contains, sides_of, nearest, rect_of, IsCutTo, HasDimensions}
use Rattle.cells.specs.declared.rect.Rect.{Rect}
use Rattle.cells.specs.declared.side.Side.{Side}

-- ---- rectangles as regions

ends_are_sides : (fs ts at : List ℕ) → length fs ≡ length ts → lies_in (sides_of (record { from = fs; to = ts })) at ≡ rect_contains (record { from = fs; to = ts }) at
ends_are_sides [] [] [] h = refl
ends_are_sides [] [] (c ∷ cs) h = refl
ends_are_sides [] (t ∷ ts) at h = absurd (omega arith)
ends_are_sides (f ∷ fs) [] at h = absurd (omega arith)
ends_are_sides (f ∷ fs) (t ∷ ts) [] h = refl
ends_are_sides (f ∷ fs) (t ∷ ts) (c ∷ cs) h = ap (λ b. (nat_le f c && nat_lt c t) && b) (ends_are_sides fs ts cs (omega arith))

pub rect_sides : (d : ℕ) (r : Rect) (at : List ℕ) → HasDimensions d r → lies_in (sides_of r) at ≡ rect_contains r at
rect_sides d r at h = ends_are_sides r.from r.to at (h.0 ∙ sym h.1)

-- ---- regions cut to the array

from_nearest : (n c : ℕ) (z : ℤ) → c < n → int_le z (pos c) ≡ nat_le (nearest n z) c
from_nearest n c (pos k) below = grind (arith, ints, nat_tests)
from_nearest n c (negsuc k) below = grind (arith, ints, nat_tests)

to_nearest : (n c : ℕ) (z : ℤ) → c < n → int_lt (pos c) z ≡ nat_lt c (nearest n z)
to_nearest n c (pos k) below = grind (arith, ints, nat_tests)
to_nearest n c (negsuc k) below = grind (arith, ints, nat_tests)

pub cut_contains : (ns at : List ℕ) (sides : List Side) → length sides ≡ length ns → in_bounds ns at ≡ true → lies_in sides at ≡ rect_contains (rect_of ns sides) at
cut_contains [] [] [] h i = refl
cut_contains [] (c ∷ cs) sides h i = cc
cut_contains [] [] (s ∷ ss) h i = absurd (omega arith)
cut_contains (n ∷ ns) at [] h i = absurd (omega arith)
cut_contains (n ∷ ns) [] (s ∷ ss) h i = cc
cut_contains (n ∷ ns) (c ∷ cs) (s ∷ ss) h i =
    let p = in_bounds-parts n ns c cs i in
    (λ k. (from_nearest n c s.from p.0 k && to_nearest n c s.to p.0 k) && cut_contains ns cs ss (omega arith) p.1 k)

nearest-within : (n : ℕ) (z : ℤ) → min (nearest n z) n ≡ nearest n z
nearest-within n (pos c) = omega arith
nearest-within n (negsuc c) = omega arith

froms_within : (ns : List ℕ) (sides : List Side) → length sides ≡ length ns → map (λ (f, g). max f g) (zip (map (λ (n, s). nearest n s.from) (zip ns sides)) (map (λ _. 0) ns)) ≡ map (λ (n, s). nearest n s.from) (zip ns sides)
froms_within [] sides h = refl
froms_within (n ∷ ns) [] h = absurd (omega arith)
froms_within (n ∷ ns) (s ∷ ss) h =
    let first : max (nearest n s.from) 0 ≡ nearest n s.from = omega arith in (λ i. first i ∷ froms_within ns ss (omega arith) i)

tos_within : (ns : List ℕ) (sides : List Side) → length sides ≡ length ns → map (λ (t, u). min t u) (zip (map (λ (n, s). nearest n s.to) (zip ns sides)) ns) ≡ map (λ (n, s). nearest n s.to) (zip ns sides)
tos_within [] sides h = refl
tos_within (n ∷ ns) [] h = absurd (omega arith)
tos_within (n ∷ ns) (s ∷ ss) h = (λ i. nearest-within n s.to i ∷ tos_within ns ss (omega arith) i)

pub cut_within : (ns : List ℕ) (sides : List Side) → length sides ≡ length ns → IsCutTo ns (rect_of ns sides)
cut_within ns sides h = (λ i. record { from = froms_within ns sides h i; to = tos_within ns sides h i })

length-nearest : (ns : List ℕ) (sides : List Side) (f : Side → ℤ) → length sides ≡ length ns → length (map (λ (n, s). nearest n (f s)) (zip ns sides)) ≡ length ns
length-nearest [] sides f h = refl
length-nearest (n ∷ ns) [] f h = absurd (omega arith)
length-nearest (n ∷ ns) (s ∷ ss) f h = let rest = length-nearest ns ss f (omega arith) in omega (arith, rest)

cut_dimensions : (ns : List ℕ) (sides : List Side) → length sides ≡ length ns → HasDimensions (length ns) (rect_of ns sides)
cut_dimensions ns sides h = (length-nearest ns sides (λ s. s.from) h, length-nearest ns sides (λ s. s.to) h)

pub cut_numbers : (a : Array) (sides : List Side) → length a.cells ≡ product a.extents → length sides ≡ length a.extents → present_cells a sides ≡ present_cells a (sides_of (rect_of a.extents sides))
cut_numbers a sides long h =
    let ns = a.extents in let r = rect_of ns sides in
    ap (filter_map (number_at a))
    (filter-agree (λ k. lies_in sides (coordinates_of ns k)) (λ k. lies_in (sides_of r) (coordinates_of ns k)) (range_with_len 0 (length a.cells))
    (λ k i.
    let within = in_range 0 (length a.cells) k i in
    let at = coordinates_of ns k in
    cut_contains ns at sides h (in_bounds-coordinates_of ns k (omega (arith, within.1, long)))
    ∙ sym (rect_sides (length ns) r at (cut_dimensions ns sides h))))
