-- The area of a rectangle, cut to an array, is how many cells of the array lie in it.
-- Used by the proofs of `cells`.
use Rattle.std.proofs.Common.{◌≡◌, ℕ, zero, suc, ◌+◌, ◌-◌, ◌*◌, ◌≤◌, min, max, nat_le, nat_lt, Bool, true, false, cond, ◌&&◌, inl, inr, List, [], ◌∷◌, length, map, refl, sym, ap, ◌∙◌, arith, filter, length-append}
use Rattle.std.specs.Prelude.{zip}
use Rattle.std.specs.List.{range_with_len, flat_map}
use Rattle.std.proofs.lemmas.Bool.{and_parts, leb-true, ltb-true, cases_Bool}
use Rattle.std.proofs.lemmas.Bool.Decides.{nat_tests}
use Rattle.std.proofs.lemmas.List.{length-map}
use Rattle.lists.specs.Numbers.{product}
use Rattle.lists.proofs.Ranges.{numbers_of_part}
use Rattle.grids.specs.Coordinates.{coordinates_of, pass_each}
use Rattle.grids.specs.Ends.{is_between_ends}
use Rattle.grids.proofs.Ends.{lengths, latest, earliest}
use Rattle.grids.proofs.Regions.{places, places-parts}

-- the test of the ends of one dimension
abbrev pub is_between : ℕ → ℕ → ℕ → Bool
is_between f t c = nat_le f c && nat_lt c t

-- and of each dimension
abbrev pub tests_between : List ℕ → List ℕ → List (ℕ → Bool)
tests_between fs ts = map (λ (f, t). is_between f t) (zip fs ts)

pub pass_each-between : (fs ts cs : List ℕ) → length ts ≡ length fs → pass_each (tests_between fs ts) cs ≡ is_between_ends fs ts cs
pass_each-between [] [] [] long = refl
pass_each-between [] [] (c ∷ cs) long = refl
pass_each-between [] (t ∷ ts) cs long = absurd (omega arith)
pass_each-between (f ∷ fs) [] cs long = absurd (omega arith)
pass_each-between (f ∷ fs) (t ∷ ts) [] long = refl
pass_each-between (f ∷ fs) (t ∷ ts) (c ∷ cs) long = ap (λ b. (nat_le f c && nat_lt c t) && b) (pass_each-between fs ts cs (omega arith))

-- ---- one dimension

inside_ends : (f t a : ℕ) → (nat_le f a && nat_lt a t) ≡ true → (f ≤ a) × (a + 1 ≤ t)
inside_ends f t a h = let b = and_parts (nat_le f a) (nat_lt a t) h in let low = leb-true f a b.0 in let high = ltb-true a t b.1 in (low, omega arith)

more_inside : (f t a n : ℕ) → f ≤ a → a + 1 ≤ t → suc (min t ((a + 1) + n) - max f (a + 1)) ≡ min t (a + suc n) - max f a
more_inside f t a n low high = omega arith

more_outside : (f t a n : ℕ) → (nat_le f a && nat_lt a t) ≡ false → min t ((a + 1) + n) - max f (a + 1) ≡ min t (a + suc n) - max f a
more_outside f t a n h = grind (arith, nat_tests)

count_side : (f t a n : ℕ) → length (filter (is_between f t) (range_with_len a n)) ≡ min t (a + n) - max f a
count_side f t a zero = omega arith
count_side f t a (suc n) =
    let rest = filter (is_between f t) (range_with_len (a + 1) n) in
    let count = count_side f t (a + 1) n in
    elim (cases_Bool (nat_le f a && nat_lt a t)) [
      | inl within ↦ (let ends = inside_ends f t a within in ap (λ b. length (cond b (a ∷ rest) rest)) within ∙ ap suc count ∙ more_inside f t a n ends.0 ends.1)
      | inr out ↦ ap (λ b. length (cond b (a ∷ rest) rest)) out ∙ count ∙ more_outside f t a n out
    ]

-- ---- all dimensions

length-parts : (p : ℕ) (js xs : List ℕ) → length (flat_map (numbers_of_part p js) xs) ≡ length xs * length js
length-parts p js [] = omega arith
length-parts p js (x ∷ xs) =
    let here = length-map js (λ j. x * p + j) in
    let rest = length-parts p js xs in
    length-append (numbers_of_part p js x) (flat_map (numbers_of_part p js) xs) ∙ omega (arith, here, rest)

length-places : (ns fs ts : List ℕ) → length fs ≡ length ns → length ts ≡ length ns
    → length (places ns (tests_between fs ts)) ≡ product (lengths (latest fs (map (λ _. 0) ns)) (earliest ts ns))
length-places [] [] [] a b = refl
length-places [] [] (t ∷ ts) a b = absurd (omega arith)
length-places [] (f ∷ fs) ts a b = absurd (omega arith)
length-places (n ∷ ns) [] ts a b = absurd (omega arith)
length-places (n ∷ ns) (f ∷ fs) [] a b = absurd (omega arith)
length-places (n ∷ ns) (f ∷ fs) (t ∷ ts) a b =
    let rest = length-places ns fs ts (omega arith) (omega arith) in
    let none : 0 + n ≡ n = omega arith in
    let first : length (filter (is_between f t) (range_with_len 0 n)) ≡ min t n - max f 0 = count_side f t 0 n ∙ ap (λ m. min t m - max f 0) none in
    ap length (places-parts n ns (is_between f t) (tests_between fs ts)) ∙ length-parts (product ns) (places ns (tests_between fs ts)) (filter (is_between f t) (range_with_len 0 n))
    ∙ (λ i. first i * rest i)

pub area-cells : (ns fs ts : List ℕ) → length fs ≡ length ns → length ts ≡ length ns
    → product (lengths (latest fs (map (λ _. 0) ns)) (earliest ts ns)) ≡ length (filter (λ k. is_between_ends fs ts (coordinates_of ns k)) (range_with_len 0 (product ns)))
area-cells ns fs ts a b =
    sym (length-places ns fs ts a b)
    ∙ (λ i. length (filter (λ k. pass_each-between fs ts (coordinates_of ns k) (omega arith) i) (range_with_len 0 (product ns))))
