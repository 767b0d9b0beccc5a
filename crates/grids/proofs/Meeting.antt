-- Which tiles meet a rectangle: those between two ends in each dimension of the grid.
-- Used by the proofs of `layouts`.
use Rattle.std.proofs.Common.{◌≡◌, ◌↔◌, ℕ, suc, ◌+◌, ◌-◌, ◌*◌, ◌/◌, ◌<◌, ◌≤◌, min, max, nat_lt, Bool, true, false, cond, List, [], ◌∷◌, length, refl, ap, arith}
use Rattle.std.proofs.Math.Nat.{div-lt_iff_lt-mul}
use Rattle.std.proofs.lemmas.Bool.{ltb-true, lt-ltb}
use Rattle.std.proofs.lemmas.Nat.{le-div}
use Rattle.lists.specs.Numbers.{product}
use Rattle.grids.specs.Coordinates.{coordinates_of, in_bounds}
use Rattle.grids.specs.Ends.{is_between_ends}
use Rattle.grids.specs.Tiles.{pieces_of, grid_of, IsTiling, tile_count, tile_from, tile_to, tile_after, first_tiles, tiles_after}
use Rattle.grids.proofs.Coordinates.{in_bounds-parts, in_bounds-coordinates_of}
use Rattle.grids.proofs.Ends.{between-parts, between-from, lengths, latest, earliest, product-some, product-first, product-second}
use Rattle.grids.proofs.Tilings.{starts_within, firsts, lasts}

-- ---- one dimension

-- a piece has a coordinate from f up to t
abbrev shared : ℕ → ℕ → ℕ → ℕ → ℕ → ℕ
shared n m f t q = min t (min n (q * m + m)) - max f (q * m)

piece_meets : (n m f t q : ℕ) → 1 ≤ m → 0 < shared n m f t q → (f / m ≤ q) × (q < tile_after f t m)
piece_meets n m f t q some h =
    let next : (q + 1) * m ≡ q * m + m = omega arith in
    let first : f / m < q + 1 = (div-lt_iff_lt-mul {k = m} {x = f} {y = q + 1} some).1 (omega (arith, h, next)) in
    let last : q + 1 ≤ pieces_of t m = le-div (q + 1) (t + (m - 1)) m some (omega (arith, h, next, some)) in
    let between : nat_lt f t ≡ true = lt-ltb f t (omega (arith, h)) in
    let past : tile_after f t m ≡ pieces_of t m = ap (λ b. cond b (pieces_of t m) (f / m)) between in
    (omega (arith, first), omega (arith, last, past))

meets_piece : (n m f t q : ℕ) → 1 ≤ m → q * m < n → t ≤ n → f / m ≤ q → q < tile_after f t m → 0 < shared n m f t q
meets_piece n m f t q some starts within first last = by_test (nat_lt f t) refl last
  where
    by_test : (b : Bool) → nat_lt f t ≡ b → q < cond b (pieces_of t m) (f / m) → 0 < shared n m f t q
    by_test true e below =
        let between = ltb-true f t e in
        let begins : q * m < t = starts_within t m q some below in
        let next : (q + 1) * m ≡ q * m + m = omega arith in
        let low : f < (q + 1) * m = (div-lt_iff_lt-mul {k = m} {x = f} {y = q + 1} some).0 (omega (arith, first)) in
        omega (arith, between, begins, next, low, starts, within, some)
    by_test false e below = absurd (omega (arith, first, below))

-- ---- all dimensions

head_same : (x y : ℕ) (xs ys : List ℕ) → x ∷ xs ≡ y ∷ ys → x ≡ y
head_same x y xs ys e = cc

tail_same : (x y : ℕ) (xs ys : List ℕ) → x ∷ xs ≡ y ∷ ys → xs ≡ ys
tail_same x y xs ys e = cc

-- how long the part of a tile is that lies in a rectangle with these ends, in each dimension
abbrev shared_lengths : List ℕ → List ℕ → List ℕ → List ℕ → List ℕ → List ℕ
shared_lengths ns ms fs ts qs = lengths (latest fs (firsts qs ms)) (earliest ts (lasts ns qs ms))

tile_meets : (ns ms fs ts qs : List ℕ) → IsTiling ns ms → in_bounds (grid_of ns ms) qs ≡ true → length fs ≡ length ns → length ts ≡ length ns
    → 0 < product (shared_lengths ns ms fs ts qs) → is_between_ends (first_tiles fs ms) (tiles_after fs ts ms) qs ≡ true
tile_meets [] [] [] [] [] t g a b h = refl
tile_meets [] [] [] [] (q ∷ qs) t g a b h = cc
tile_meets [] [] [] (u ∷ us) qs t g a b h = absurd (omega arith)
tile_meets [] [] (f ∷ fs) ts qs t g a b h = absurd (omega arith)
tile_meets [] (m ∷ ms) fs ts qs t g a b h = elim t [ ]
tile_meets (n ∷ ns) [] fs ts qs t g a b h = elim t [ ]
tile_meets (n ∷ ns) (m ∷ ms) [] ts qs t g a b h = absurd (omega arith)
tile_meets (n ∷ ns) (m ∷ ms) (f ∷ fs) [] qs t g a b h = absurd (omega arith)
tile_meets (n ∷ ns) (m ∷ ms) (f ∷ fs) (u ∷ us) [] t g a b h = cc
tile_meets (n ∷ ns) (m ∷ ms) (f ∷ fs) (u ∷ us) (q ∷ qs) t g a b h =
    let p = in_bounds-parts (pieces_of n m) (grid_of ns ms) q qs g in
    let rest = product (shared_lengths ns ms fs us qs) in
    let here = piece_meets n m f u q t.0 (product-first (shared n m f u q) rest h) in
    between-from (f / m) (tile_after f u m) q (first_tiles fs ms) (tiles_after fs us ms) qs here.0 here.1
    (tile_meets ns ms fs us qs t.1 p.1 (omega arith) (omega arith) (product-second (shared n m f u q) rest h))

meets_tile : (ns ms fs ts qs : List ℕ) → IsTiling ns ms → in_bounds (grid_of ns ms) qs ≡ true → length fs ≡ length ns → length ts ≡ length ns → earliest ts ns ≡ ts
    → is_between_ends (first_tiles fs ms) (tiles_after fs ts ms) qs ≡ true → 0 < product (shared_lengths ns ms fs ts qs)
meets_tile [] [] [] [] [] t g a b cut h = omega arith
meets_tile [] [] [] [] (q ∷ qs) t g a b cut h = cc
meets_tile [] [] [] (u ∷ us) qs t g a b cut h = absurd (omega arith)
meets_tile [] [] (f ∷ fs) ts qs t g a b cut h = absurd (omega arith)
meets_tile [] (m ∷ ms) fs ts qs t g a b cut h = elim t [ ]
meets_tile (n ∷ ns) [] fs ts qs t g a b cut h = elim t [ ]
meets_tile (n ∷ ns) (m ∷ ms) [] ts qs t g a b cut h = absurd (omega arith)
meets_tile (n ∷ ns) (m ∷ ms) (f ∷ fs) [] qs t g a b cut h = absurd (omega arith)
meets_tile (n ∷ ns) (m ∷ ms) (f ∷ fs) (u ∷ us) [] t g a b cut h = cc
meets_tile (n ∷ ns) (m ∷ ms) (f ∷ fs) (u ∷ us) (q ∷ qs) t g a b cut h =
    let p = in_bounds-parts (pieces_of n m) (grid_of ns ms) q qs g in
    let c = between-parts (f / m) (tile_after f u m) q (first_tiles fs ms) (tiles_after fs us ms) qs h in
    let short : min u n ≡ u = head_same (min u n) u (earliest us ns) us cut in
    product-some (shared n m f u q) (product (shared_lengths ns ms fs us qs))
    (meets_piece n m f u q t.0 (starts_within n m q t.0 p.0) (omega (arith, short)) c.0 c.1)
    (meets_tile ns ms fs us qs t.1 p.1 (omega arith) (omega arith) (tail_same (min u n) u (earliest us ns) us cut) c.2)

-- a tile has a cell of a rectangle that lies within the extents exactly if its coordinates lie between these two ends of the grid
pub tiles_meet : (ns ms fs ts : List ℕ) (k : ℕ) → IsTiling ns ms → k < tile_count ns ms → length fs ≡ length ns → length ts ≡ length ns → earliest ts ns ≡ ts
    → (0 < product (lengths (latest fs (tile_from ns ms k)) (earliest ts (tile_to ns ms k)))) ↔ (is_between_ends (first_tiles fs ms) (tiles_after fs ts ms) (coordinates_of (grid_of ns ms) k) ≡ true)
tiles_meet ns ms fs ts k t below a b cut =
    let qs = coordinates_of (grid_of ns ms) k in
    let g = in_bounds-coordinates_of (grid_of ns ms) k below in
    ((λ h. tile_meets ns ms fs ts qs t g a b h), (λ h. meets_tile ns ms fs ts qs t g a b cut h))

-- ---- as many ends as extents

length-firsts : (ns ms qs : List ℕ) → IsTiling ns ms → in_bounds (grid_of ns ms) qs ≡ true → length (firsts qs ms) ≡ length ns
length-firsts [] [] [] t g = refl
length-firsts [] [] (q ∷ qs) t g = cc
length-firsts [] (m ∷ ms) qs t g = elim t [ ]
length-firsts (n ∷ ns) [] qs t g = elim t [ ]
length-firsts (n ∷ ns) (m ∷ ms) [] t g = cc
length-firsts (n ∷ ns) (m ∷ ms) (q ∷ qs) t g = ap suc (length-firsts ns ms qs t.1 (in_bounds-parts (pieces_of n m) (grid_of ns ms) q qs g).1)

length-lasts : (ns ms qs : List ℕ) → IsTiling ns ms → in_bounds (grid_of ns ms) qs ≡ true → length (lasts ns qs ms) ≡ length ns
length-lasts [] [] [] t g = refl
length-lasts [] [] (q ∷ qs) t g = cc
length-lasts [] (m ∷ ms) qs t g = elim t [ ]
length-lasts (n ∷ ns) [] qs t g = elim t [ ]
length-lasts (n ∷ ns) (m ∷ ms) [] t g = cc
length-lasts (n ∷ ns) (m ∷ ms) (q ∷ qs) t g = ap suc (length-lasts ns ms qs t.1 (in_bounds-parts (pieces_of n m) (grid_of ns ms) q qs g).1)

pub length-tile_ends : (ns ms : List ℕ) (k : ℕ) → IsTiling ns ms → k < tile_count ns ms → (length (tile_from ns ms k) ≡ length ns) × (length (tile_to ns ms k) ≡ length ns)
length-tile_ends ns ms k t below =
    let qs = coordinates_of (grid_of ns ms) k in
    let g = in_bounds-coordinates_of (grid_of ns ms) k below in (length-firsts ns ms qs t g, length-lasts ns ms qs t g)
