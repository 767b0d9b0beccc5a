-- Tiles cover an array, and no two of them share a cell.
-- Used by the proofs of `layouts`, `chunk_copies`, `array_file` and `chunk_store`.
use Rattle.std.proofs.Common.{◌≡◌, ℕ, ◌+◌, ◌-◌, ◌*◌, ◌/◌, ◌<◌, ◌≤◌, min, true, List, [], ◌∷◌, map, refl, ap, ◌∙◌, arith}
use Rattle.std.specs.Prelude.{zip}
use Rattle.std.proofs.Math.Nat.{div-mul-le_self, lt-div-mul-add, div-eq_of_lt-le, le-div_iff_mul-le}
use Rattle.std.proofs.lemmas.Nat.{le-div}
use Rattle.grids.specs.Coordinates.{coordinates_of, index_of, in_bounds}
use Rattle.grids.specs.Tiles.{tile_to, pieces_of, grid_of, IsTiling, tile_count, tile_of, tile_from}
use Rattle.grids.specs.Ends.{is_between_ends}
use Rattle.grids.proofs.Ends.{between-parts, between-from}
use Rattle.grids.proofs.Coordinates.{in_bounds-parts, in_bounds-from, index_of-below, coordinates_of-index_of, in_bounds-coordinates_of, index_of-coordinates_of}

-- ---- one dimension

pub in_grid : (n m c : ℕ) → 1 ≤ m → c < n → c / m < pieces_of n m
in_grid n m c some h = let low = div-mul-le_self c m in omega (arith, le-div (c / m + 1) (n + (m - 1)) m some (omega (arith, low)))

pub starts_within : (n m q : ℕ) → 1 ≤ m → q < pieces_of n m → q * m < n
starts_within n m q some h = let all = (le-div_iff_mul-le {k = m} {x = q + 1} {y = n + (m - 1)} some).0 (omega arith) in omega (arith, all)

pub quotient_is : (m q c : ℕ) → q * m ≤ c → c < q * m + m → c / m ≡ q
quotient_is m q c low high = div-eq_of_lt-le m low (omega arith)

-- ---- all dimensions

-- the tile of a cell in each dimension
abbrev pub quotients : List ℕ → List ℕ → List ℕ
quotients at ms = map (λ (c, m). c / m) (zip at ms)

-- where a tile begins and ends in each dimension
abbrev pub firsts : List ℕ → List ℕ → List ℕ
firsts qs ms = map (λ (q, m). q * m) (zip qs ms)

abbrev pub lasts : List ℕ → List ℕ → List ℕ → List ℕ
lasts ns qs ms = map (λ (n, b). min n b) (zip ns (map (λ (q, m). q * m + m) (zip qs ms)))

pub quotients-in_bounds : (ns ms at : List ℕ) → IsTiling ns ms → in_bounds ns at ≡ true → in_bounds (grid_of ns ms) (quotients at ms) ≡ true
quotients-in_bounds [] [] [] t h = refl
quotients-in_bounds [] [] (c ∷ cs) t h = cc
quotients-in_bounds [] (m ∷ ms) at t h = elim t [ ]
quotients-in_bounds (n ∷ ns) [] at t h = elim t [ ]
quotients-in_bounds (n ∷ ns) (m ∷ ms) [] t h = cc
quotients-in_bounds (n ∷ ns) (m ∷ ms) (c ∷ cs) t h =
    let p = in_bounds-parts n ns c cs h in
    in_bounds-from (pieces_of n m) (grid_of ns ms) (c / m) (quotients cs ms) (in_grid n m c t.0 p.0) (quotients-in_bounds ns ms cs t.1 p.1)

covers : (ns ms at : List ℕ) → IsTiling ns ms → in_bounds ns at ≡ true → is_between_ends (firsts (quotients at ms) ms) (lasts ns (quotients at ms) ms) at ≡ true
covers [] [] [] t h = refl
covers [] [] (c ∷ cs) t h = cc
covers [] (m ∷ ms) at t h = elim t [ ]
covers (n ∷ ns) [] at t h = elim t [ ]
covers (n ∷ ns) (m ∷ ms) [] t h = cc
covers (n ∷ ns) (m ∷ ms) (c ∷ cs) t h =
    let p = in_bounds-parts n ns c cs h in
    let low = div-mul-le_self c m in
    let high = lt-div-mul-add {a = c} {b = m} t.0 in
    between-from (c / m * m) (min n (c / m * m + m)) c (firsts (quotients cs ms) ms) (lasts ns (quotients cs ms) ms) cs low (omega (arith, high, p.0)) (covers ns ms cs t.1 p.1)

pub within : (ns ms qs at : List ℕ) → IsTiling ns ms → in_bounds (grid_of ns ms) qs ≡ true → is_between_ends (firsts qs ms) (lasts ns qs ms) at ≡ true
    → (in_bounds ns at ≡ true) × (quotients at ms ≡ qs)
within [] [] [] [] t g h = (refl, refl)
within [] [] [] (c ∷ cs) t g h = cc
within [] [] (q ∷ qs) at t g h = cc
within [] (m ∷ ms) qs at t g h = elim t [ ]
within (n ∷ ns) [] qs at t g h = elim t [ ]
within (n ∷ ns) (m ∷ ms) [] at t g h = cc
within (n ∷ ns) (m ∷ ms) (q ∷ qs) [] t g h = cc
within (n ∷ ns) (m ∷ ms) (q ∷ qs) (c ∷ cs) t g h =
    let p = in_bounds-parts (pieces_of n m) (grid_of ns ms) q qs g in
    let b = between-parts (q * m) (min n (q * m + m)) c (firsts qs ms) (lasts ns qs ms) cs h in
    let rest = within ns ms qs cs t.1 p.1 b.2 in
    let same = quotient_is m q c b.0 (omega (arith, b.1)) in
    (in_bounds-from n ns c cs (omega (arith, b.1)) rest.0, (λ i. same i ∷ rest.1 i))

begins : (ns ms qs : List ℕ) → IsTiling ns ms → in_bounds (grid_of ns ms) qs ≡ true → is_between_ends (firsts qs ms) (lasts ns qs ms) (firsts qs ms) ≡ true
begins [] [] [] t g = refl
begins [] [] (q ∷ qs) t g = cc
begins [] (m ∷ ms) qs t g = elim t [ ]
begins (n ∷ ns) [] qs t g = elim t [ ]
begins (n ∷ ns) (m ∷ ms) [] t g = cc
begins (n ∷ ns) (m ∷ ms) (q ∷ qs) t g =
    let p = in_bounds-parts (pieces_of n m) (grid_of ns ms) q qs g in
    let here = starts_within n m q t.0 p.0 in
    between-from (q * m) (min n (q * m + m)) (q * m) (firsts qs ms) (lasts ns qs ms) (firsts qs ms) (omega arith) (omega (arith, here, t.0)) (begins ns ms qs t.1 p.1)

-- ---- tiles

pub tile_of-below : (ns ms at : List ℕ) → IsTiling ns ms → in_bounds ns at ≡ true → tile_of ns ms at < tile_count ns ms
tile_of-below ns ms at t h = index_of-below (grid_of ns ms) (quotients at ms) (quotients-in_bounds ns ms at t h)

-- the coordinates of the tile of a cell are the cell's quotients
pub coordinates_of-tile_of : (ns ms at : List ℕ) → IsTiling ns ms → in_bounds ns at ≡ true → coordinates_of (grid_of ns ms) (tile_of ns ms at) ≡ quotients at ms
coordinates_of-tile_of ns ms at t h = coordinates_of-index_of (grid_of ns ms) (quotients at ms) (quotients-in_bounds ns ms at t h)

pub tile_of-holds : (ns ms at : List ℕ) → IsTiling ns ms → in_bounds ns at ≡ true → is_between_ends (tile_from ns ms (tile_of ns ms at)) (tile_to ns ms (tile_of ns ms at)) at ≡ true
tile_of-holds ns ms at t h = let e = coordinates_of-tile_of ns ms at t h in ap (λ qs. is_between_ends (firsts qs ms) (lasts ns qs ms) at) e ∙ covers ns ms at t h

pub tile_rect-within : (ns ms : List ℕ) (k : ℕ) (at : List ℕ) → IsTiling ns ms → k < tile_count ns ms → is_between_ends (tile_from ns ms k) (tile_to ns ms k) at ≡ true → in_bounds ns at ≡ true
tile_rect-within ns ms k at t below h = (within ns ms (coordinates_of (grid_of ns ms) k) at t (in_bounds-coordinates_of (grid_of ns ms) k below) h).0

pub tile_of-tile_rect : (ns ms : List ℕ) (k : ℕ) (at : List ℕ) → IsTiling ns ms → k < tile_count ns ms → is_between_ends (tile_from ns ms k) (tile_to ns ms k) at ≡ true → tile_of ns ms at ≡ k
tile_of-tile_rect ns ms k at t below h =
    ap (index_of (grid_of ns ms)) (within ns ms (coordinates_of (grid_of ns ms) k) at t (in_bounds-coordinates_of (grid_of ns ms) k below) h).1
    ∙ index_of-coordinates_of (grid_of ns ms) k below

pub tile_from-holds : (ns ms : List ℕ) (k : ℕ) → IsTiling ns ms → k < tile_count ns ms → is_between_ends (tile_from ns ms k) (tile_to ns ms k) (tile_from ns ms k) ≡ true
tile_from-holds ns ms k t below = begins ns ms (coordinates_of (grid_of ns ms) k) t (in_bounds-coordinates_of (grid_of ns ms) k below)
