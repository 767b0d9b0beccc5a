-- Tiles nest in tiles whose lengths are multiples of theirs.
-- Used by the proofs of `layouts`.
use Rattle.std.proofs.Common.{◌≡◌, ℕ, ◌*◌, ◌/◌, ◌%◌, ◌<◌, true, List, [], ◌∷◌, refl, sym, ap, subst, ◌∙◌, arith}
use Rattle.std.proofs.Math.Nat.{div-div-eq-div-mul}
use Rattle.std.proofs.lemmas.Nat.{div-add-mod'}
use Rattle.grids.specs.Coordinates.{coordinates_of, index_of, in_bounds}
use Rattle.grids.specs.Ends.{is_between_ends}
use Rattle.grids.specs.Tiles.{tile_to, grid_of, IsTiling, AreMultiples, tile_count, tile_of, tile_from}
use Rattle.grids.proofs.Coordinates.{in_bounds-parts, in_bounds-coordinates_of}
use Rattle.grids.proofs.Tilings.{quotients, within, tile_of-below, tile_of-holds, tile_of-tile_rect, tile_rect-within, tile_from-holds}

-- ---- one dimension

-- the quotient by a multiple depends on the quotient alone
quotient_by_multiple : (m k c d : ℕ) → k % m ≡ 0 → c / m ≡ d / m → c / k ≡ d / k
quotient_by_multiple m k c d whole same =
    let e : m * (k / m) ≡ k = let all = div-add-mod' k m in omega (arith, all, whole) in
    ap (λ n. c / n) (sym e) ∙ sym (div-div-eq-div-mul c m (k / m)) ∙ ap (λ n. n / (k / m)) same ∙ div-div-eq-div-mul d m (k / m) ∙ ap (λ n. d / n) e

-- ---- all dimensions

head_of : List ℕ → ℕ
head_of [] = 0
head_of (x ∷ xs) = x

tail_of : List ℕ → List ℕ
tail_of [] = []
tail_of (x ∷ xs) = xs

-- two cells of one tile lie in one longer tile
quotients_by_multiples : (ns ms ks at bt : List ℕ) → IsTiling ns ms → IsTiling ns ks → AreMultiples ks ms → in_bounds ns at ≡ true → in_bounds ns bt ≡ true
    → quotients at ms ≡ quotients bt ms → quotients at ks ≡ quotients bt ks
unfolding head_of tail_of
quotients_by_multiples [] ms ks [] [] t s a g h e = refl
quotients_by_multiples [] ms ks [] (d ∷ ds) t s a g h e = cc
quotients_by_multiples [] ms ks (c ∷ cs) bt t s a g h e = cc
quotients_by_multiples (n ∷ ns) [] ks at bt t s a g h e = elim t [ ]
quotients_by_multiples (n ∷ ns) (m ∷ ms) [] at bt t s a g h e = elim s [ ]
quotients_by_multiples (n ∷ ns) (m ∷ ms) (k ∷ ks) [] bt t s a g h e = cc
quotients_by_multiples (n ∷ ns) (m ∷ ms) (k ∷ ks) (c ∷ cs) [] t s a g h e = cc
quotients_by_multiples (n ∷ ns) (m ∷ ms) (k ∷ ks) (c ∷ cs) (d ∷ ds) t s a g h e =
    let first = quotient_by_multiple m k c d a.0 (ap head_of e) in
    let rest = quotients_by_multiples ns ms ks cs ds t.1 s.1 a.1 (in_bounds-parts n ns c cs g).1 (in_bounds-parts n ns d ds h).1 (ap tail_of e) in
    (λ i. first i ∷ rest i)

-- ---- tiles

-- a cell of a tile lies in the longer tile in which the tile's first cell lies
tile_of-longer : (ns ms ks : List ℕ) (t : ℕ) (at : List ℕ) → IsTiling ns ms → IsTiling ns ks → AreMultiples ks ms → t < tile_count ns ms
    → is_between_ends (tile_from ns ms t) (tile_to ns ms t) at ≡ true → tile_of ns ks at ≡ tile_of ns ks (tile_from ns ms t)
tile_of-longer ns ms ks t at shorter longer whole below h =
    let first = tile_from ns ms t in
    let stands = in_bounds-coordinates_of (grid_of ns ms) t below in
    let here = within ns ms (coordinates_of (grid_of ns ms) t) at shorter stands h in
    let there = within ns ms (coordinates_of (grid_of ns ms) t) first shorter stands (tile_from-holds ns ms t shorter below) in
    ap (index_of (grid_of ns ks)) (quotients_by_multiples ns ms ks at first shorter longer whole here.0 there.0 (here.1 ∙ sym there.1))

pub tile_of-tile_from : (ns ms ks : List ℕ) (t : ℕ) → IsTiling ns ms → IsTiling ns ks → t < tile_count ns ms → tile_of ns ks (tile_from ns ms t) < tile_count ns ks
tile_of-tile_from ns ms ks t shorter longer below =
    let first = tile_from ns ms t in
    tile_of-below ns ks first longer (tile_rect-within ns ms t first shorter below (tile_from-holds ns ms t shorter below))

pub tile_rect-inside : (ns ms ks : List ℕ) (t : ℕ) → IsTiling ns ms → IsTiling ns ks → AreMultiples ks ms → t < tile_count ns ms
    → ((at : List ℕ) → is_between_ends (tile_from ns ms t) (tile_to ns ms t) at ≡ true → is_between_ends (tile_from ns ks (tile_of ns ks (tile_from ns ms t))) (tile_to ns ks (tile_of ns ks (tile_from ns ms t))) at ≡ true)
tile_rect-inside ns ms ks t shorter longer whole below at h =
    let Holds : ℕ → Type 0 = λ u. is_between_ends (tile_from ns ks u) (tile_to ns ks u) at ≡ true in
    subst Holds (tile_of-longer ns ms ks t at shorter longer whole below h) (tile_of-holds ns ks at longer (tile_rect-within ns ms t at shorter below h))

pub tile_rect-inside_one : (ns ms ks : List ℕ) (t u : ℕ) (at : List ℕ) → IsTiling ns ms → IsTiling ns ks → AreMultiples ks ms → t < tile_count ns ms → u < tile_count ns ks
    → is_between_ends (tile_from ns ms t) (tile_to ns ms t) at ≡ true → is_between_ends (tile_from ns ks u) (tile_to ns ks u) at ≡ true → u ≡ tile_of ns ks (tile_from ns ms t)
tile_rect-inside_one ns ms ks t u at shorter longer whole below among h k =
    sym (tile_of-tile_rect ns ks u at longer among k) ∙ tile_of-longer ns ms ks t at shorter longer whole below h
