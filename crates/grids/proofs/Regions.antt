-- The indices of the cells of a region, part by part: one part for each coordinate of the first dimension, in order.
-- Used by the proofs of `cell_fold` and `chunk_store`.
use Rattle.std.proofs.Common.{◌≡◌, ℕ, ◌+◌, ◌*◌, Bool, true, false, cond, ◌&&◌, List, [], ◌∷◌, map, refl, ap, ◌∙◌, arith, filter}
use Rattle.std.specs.List.{range_with_len, flat_map}
use Rattle.std.proofs.lemmas.Nat.{div-mul-add, mod-mul-add}
use Rattle.lists.specs.Numbers.{product}
use Rattle.lists.proofs.Members.{IsIn, filter_none}
use Rattle.lists.proofs.Filters.{filter-map, filter-flat_map, filter-agree, flat_map-agree, flat_map-cond}
use Rattle.lists.proofs.Ranges.{in_range, numbers_of_part, range_with_len-times}
use Rattle.grids.specs.Coordinates.{coordinates_of, pass_each}

-- the indices of the cells of these extents whose coordinates pass each test, in order
abbrev pub places : List ℕ → List (ℕ → Bool) → List ℕ
places ns ps = filter (λ k. pass_each ps (coordinates_of ns k)) (range_with_len 0 (product ns))

-- the indices of the c-th part
part_in : (n : ℕ) (ns : List ℕ) (p : ℕ → Bool) (ps : List (ℕ → Bool)) (c : ℕ)
    → filter (λ k. pass_each (p ∷ ps) (coordinates_of (n ∷ ns) k)) (numbers_of_part (product ns) (range_with_len 0 (product ns)) c) ≡ cond (p c) (numbers_of_part (product ns) (places ns ps) c) []
part_in n ns p ps c =
    filter-map (λ k. pass_each (p ∷ ps) (coordinates_of (n ∷ ns) k)) (λ j. c * product ns + j) (range_with_len 0 (product ns))
    ∙ ap (map (λ j. c * product ns + j)) (filter-agree (λ j. pass_each (p ∷ ps) (coordinates_of (n ∷ ns) (c * product ns + j))) (λ j. p c && pass_each ps (coordinates_of ns j)) (range_with_len 0 (product ns)) same)
    ∙ by_test (p c)
  where
    same : (j : ℕ) → IsIn j (range_with_len 0 (product ns)) → pass_each (p ∷ ps) (coordinates_of (n ∷ ns) (c * product ns + j)) ≡ (p c && pass_each ps (coordinates_of ns j))
    same j m =
        let below = in_range 0 (product ns) j m in
        let first = div-mul-add c (product ns) j (omega arith) in
        let rest = mod-mul-add c (product ns) j (omega arith) in
        (λ i. p (first i) && pass_each ps (coordinates_of ns (rest i)))

    by_test : (b : Bool) → map (λ j. c * product ns + j) (filter (λ j. b && pass_each ps (coordinates_of ns j)) (range_with_len 0 (product ns))) ≡ cond b (numbers_of_part (product ns) (places ns ps) c) []
    by_test true = refl
    by_test false = ap (map (λ j. c * product ns + j)) (filter_none (λ j. false) (range_with_len 0 (product ns)) (λ _ _. refl))

-- the indices of a region are those of its parts, one part for each coordinate that passes the first test
pub places-parts : (n : ℕ) (ns : List ℕ) (p : ℕ → Bool) (ps : List (ℕ → Bool))
    → places (n ∷ ns) (p ∷ ps) ≡ flat_map (numbers_of_part (product ns) (places ns ps)) (filter p (range_with_len 0 n))
places-parts n ns p ps =
    let test = λ (k : ℕ). pass_each (p ∷ ps) (coordinates_of (n ∷ ns) k) in
    let start : 0 ≡ 0 * product ns = omega arith in
    ap (filter test) (ap (λ k. range_with_len k (n * product ns)) start ∙ range_with_len-times 0 n (product ns))
    ∙ filter-flat_map test (numbers_of_part (product ns) (range_with_len 0 (product ns))) (range_with_len 0 n)
    ∙ flat_map-agree _ _ (range_with_len 0 n) (λ c _. part_in n ns p ps c)
    ∙ flat_map-cond p (numbers_of_part (product ns) (places ns ps)) (range_with_len 0 n)
