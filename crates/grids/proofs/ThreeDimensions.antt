-- Indices, coordinates, grids and tiles in three dimensions, written out.
-- Used by the proofs of `cells` and `layouts`.
use Rattle.std.proofs.Common.{◌≡◌, ℕ, suc, ◌+◌, ◌-◌, ◌*◌, ◌/◌, ◌%◌, ◌<◌, ◌≤◌, min, true, List, [], ◌∷◌, length, get_or, All, refl, sym, ap, ◌∙◌, arith}
use Rattle.std.proofs.Math.Nat.{div-eq_of_lt-le}
use Rattle.std.proofs.lemmas.Grind.{div_ceil_times}
use Rattle.std.proofs.lemmas.Nat.{div_below, mod_below, div-add-mod'}
use Rattle.grids.specs.Coordinates.{coordinates_of, index_of, in_bounds}
use Rattle.grids.specs.Tiles.{pieces_of, grid_of, IsTiling}
use Rattle.lists.specs.Numbers.{product}
use Rattle.grids.proofs.Coordinates.{in_bounds-from, index_of-below, coordinates_of-index_of, second_some}
use Rattle.grids.proofs.Ends.{product-first, product-second}
use Rattle.grids.proofs.Tilings.{quotients}

pub tiling-from : (ns ms : List ℕ) → length ns ≡ length ms → All (λ m. 1 ≤ m) ms → IsTiling ns ms
tiling-from [] [] long all = tt
tiling-from [] (m ∷ ms) long all = absurd (omega arith)
tiling-from (n ∷ ns) [] long all = absurd (omega arith)
tiling-from (n ∷ ns) (m ∷ ms) long all = (all 0 m (omega arith), tiling-from ns ms (omega arith) (λ k d h. all (suc k) d (omega arith)))

-- the index of coordinates, dimension by dimension
pub index_of-three : (ns cs : List ℕ) → length ns ≡ 3 → length cs ≡ 3
    → (get_or cs 0 0 * get_or ns 1 0 + get_or cs 1 0) * get_or ns 2 0 + get_or cs 2 0 ≡ index_of ns cs
index_of-three (n ∷ n2 ∷ n3 ∷ []) (c ∷ c2 ∷ c3 ∷ []) g h = omega arith
index_of-three ns cs g h = absurd (omega arith)

pub index_of-three_below : (ns cs : List ℕ) → length ns ≡ 3 → length cs ≡ 3 → in_bounds ns cs ≡ true
    → (get_or cs 0 0 * get_or ns 1 0 + get_or cs 1 0) * get_or ns 2 0 + get_or cs 2 0 < product ns
index_of-three_below ns cs g h place = let below = index_of-below ns cs place in omega (arith, index_of-three ns cs g h)

-- the coordinates of an index, by division by one extent after the other
abbrev pub coordinates-three : List ℕ → ℕ → List ℕ
coordinates-three ns k = (k / get_or ns 2 0 / get_or ns 1 0) ∷ (k / get_or ns 2 0 % get_or ns 1 0) ∷ (k % get_or ns 2 0) ∷ []

pub in_bounds-three : (ns : List ℕ) (k : ℕ) → length ns ≡ 3 → k < product ns → in_bounds ns (coordinates-three ns k) ≡ true
in_bounds-three (n ∷ n2 ∷ n3 ∷ []) k g h =
    let rest = second_some k n (n2 * (n3 * 1)) h in
    let some_2 = product-first n2 (n3 * 1) rest in
    let some_3 = product-first n3 1 (product-second n2 (n3 * 1) rest) in
    let row = div_below k n3 (n * n2) some_3 (omega arith) in
    in_bounds-from n (n2 ∷ n3 ∷ []) (k / n3 / n2) ((k / n3 % n2) ∷ (k % n3) ∷ []) (div_below (k / n3) n2 n some_2 row)
    (in_bounds-from n2 (n3 ∷ []) (k / n3 % n2) ((k % n3) ∷ []) (mod_below (k / n3) n2 some_2) (in_bounds-from n3 [] (k % n3) [] (mod_below k n3 some_3) refl))
in_bounds-three ns k g h = absurd (omega arith)

index_of-coordinates-three : (ns : List ℕ) (k : ℕ) → length ns ≡ 3 → index_of ns (coordinates-three ns k) ≡ k
index_of-coordinates-three (n ∷ n2 ∷ n3 ∷ []) k g =
    let row = div-add-mod' (k / n3) n2 in
    let all = div-add-mod' k n3 in
    let e : (k / n3 / n2 * n2 + k / n3 % n2) * n3 + k % n3 ≡ k = ap (λ r. r * n3 + k % n3) row ∙ all in
    omega (arith, e)
index_of-coordinates-three ns k g = absurd (omega arith)

pub coordinates_of-three : (ns : List ℕ) (k : ℕ) → length ns ≡ 3 → k < product ns → coordinates-three ns k ≡ coordinates_of ns k
coordinates_of-three ns k g h =
    sym (coordinates_of-index_of ns (coordinates-three ns k) (in_bounds-three ns k g h)) ∙ ap (coordinates_of ns) (index_of-coordinates-three ns k g)

-- the pieces of an extent, as `div_ceil` counts them
ceil_is : (n m p : ℕ) → n ≤ p * m → p * m < n + m → (n + (m - 1)) / m ≡ p
ceil_is n m p low high = div-eq_of_lt-le m (omega arith) (omega arith)

pub pieces_of-ceil : (n m : ℕ) → 1 ≤ m → n / m + min 1 (n % m) ≡ pieces_of n m
pieces_of-ceil n m some = let b = div_ceil_times n m some in sym (ceil_is n m (n / m + min 1 (n % m)) b.0 b.1)

pub grid_of-three : (ns ms : List ℕ) (a b c : ℕ) → length ns ≡ 3 → length ms ≡ 3
    → a ≡ pieces_of (get_or ns 0 0) (get_or ms 0 0) → b ≡ pieces_of (get_or ns 1 0) (get_or ms 1 0) → c ≡ pieces_of (get_or ns 2 0) (get_or ms 2 0)
    → a ∷ b ∷ c ∷ [] ≡ grid_of ns ms
grid_of-three (n ∷ n2 ∷ n3 ∷ []) (m ∷ m2 ∷ m3 ∷ []) a b c g h first second third = (λ i. first i ∷ second i ∷ third i ∷ [])
grid_of-three ns ms a b c g h first second third = absurd (omega arith)

-- the tile of a cell in each dimension
pub quotients-three : (at ms : List ℕ) → length at ≡ 3 → length ms ≡ 3 → (get_or at 0 0 / get_or ms 0 0) ∷ (get_or at 1 0 / get_or ms 1 0) ∷ (get_or at 2 0 / get_or ms 2 0) ∷ [] ≡ quotients at ms
quotients-three (c ∷ c2 ∷ c3 ∷ []) (m ∷ m2 ∷ m3 ∷ []) g h = refl
quotients-three at ms g h = absurd (omega arith)
