-- A tile has each of its cells once.
-- Used by the proofs of `layouts`, `chunk_copies`, `array_file` and `chunk_store`.
use Rattle.std.proofs.Common.{◌≡◌, ℕ, ◌+◌, ◌-◌, ◌*◌, ◌/◌, ◌%◌, ◌<◌, true, List, [], ◌∷◌, map, refl, sym, ap, ◌∙◌, arith}
use Rattle.std.specs.Prelude.{zip}
use Rattle.std.proofs.lemmas.Nat.{mod_below, div-add-mod'}
use Rattle.grids.specs.Coordinates.{coordinates_of, in_bounds}
use Rattle.grids.specs.Tiles.{tile_from, grid_of, IsTiling, tile_of, index_in_tile}
use Rattle.lists.specs.Numbers.{product}
use Rattle.grids.proofs.Coordinates.{in_bounds-parts, in_bounds-from, index_of-below, coordinates_of-index_of}
use Rattle.grids.proofs.Tilings.{quotients, firsts, coordinates_of-tile_of}

-- the coordinates of a cell within its tile, in each dimension
abbrev pub remainders : List ℕ → List ℕ → List ℕ
remainders at ms = map (λ (c, m). c % m) (zip at ms)

pub remainders-in_bounds : (ns ms at : List ℕ) → IsTiling ns ms → in_bounds ns at ≡ true → in_bounds ms (remainders at ms) ≡ true
remainders-in_bounds [] [] [] t h = refl
remainders-in_bounds [] [] (c ∷ cs) t h = cc
remainders-in_bounds [] (m ∷ ms) at t h = elim t [ ]
remainders-in_bounds (n ∷ ns) [] at t h = elim t [ ]
remainders-in_bounds (n ∷ ns) (m ∷ ms) [] t h = cc
remainders-in_bounds (n ∷ ns) (m ∷ ms) (c ∷ cs) t h =
    let p = in_bounds-parts n ns c cs h in
    in_bounds-from m ms (c % m) (remainders cs ms) (mod_below c m t.0) (remainders-in_bounds ns ms cs t.1 p.1)

pub index_in_tile-below : (ns ms at : List ℕ) → IsTiling ns ms → in_bounds ns at ≡ true → index_in_tile ms at < product ms
index_in_tile-below ns ms at t h = index_of-below ms (remainders at ms) (remainders-in_bounds ns ms at t h)

-- coordinates from their quotients and remainders
joined : List ℕ → List ℕ → List ℕ → List ℕ
joined [] qs rs = []
joined (m ∷ ms) [] rs = []
joined (m ∷ ms) (q ∷ qs) [] = []
joined (m ∷ ms) (q ∷ qs) (r ∷ rs) = (q * m + r) ∷ joined ms qs rs

joined-parts : (ns ms at : List ℕ) → IsTiling ns ms → in_bounds ns at ≡ true → joined ms (quotients at ms) (remainders at ms) ≡ at
unfolding joined
joined-parts [] [] [] t h = refl
joined-parts [] [] (c ∷ cs) t h = cc
joined-parts [] (m ∷ ms) at t h = elim t [ ]
joined-parts (n ∷ ns) [] at t h = elim t [ ]
joined-parts (n ∷ ns) (m ∷ ms) [] t h = cc
joined-parts (n ∷ ns) (m ∷ ms) (c ∷ cs) t h = (λ i. div-add-mod' c m i ∷ joined-parts ns ms cs t.1 (in_bounds-parts n ns c cs h).1 i)

pub same_coordinates : (ns ms at bt : List ℕ) → IsTiling ns ms → in_bounds ns at ≡ true → in_bounds ns bt ≡ true
    → tile_of ns ms at ≡ tile_of ns ms bt → index_in_tile ms at ≡ index_in_tile ms bt → at ≡ bt
same_coordinates ns ms at bt t h k tile place =
    let qs : quotients at ms ≡ quotients bt ms = sym (coordinates_of-tile_of ns ms at t h) ∙ ap (coordinates_of (grid_of ns ms)) tile ∙ coordinates_of-tile_of ns ms bt t k in
    let rs : remainders at ms ≡ remainders bt ms =
    sym (coordinates_of-index_of ms (remainders at ms) (remainders-in_bounds ns ms at t h)) ∙ ap (coordinates_of ms) place ∙ coordinates_of-index_of ms (remainders bt ms) (remainders-in_bounds ns ms bt t k) in
    sym (joined-parts ns ms at t h) ∙ (λ i. joined ms (qs i) (rs i)) ∙ joined-parts ns ms bt t k

-- ---- from the first coordinates of a tile on

-- coordinates less others, and coordinates and others, dimension by dimension
abbrev pub differences : List ℕ → List ℕ → List ℕ
differences cs fs = map (λ (c, f). c - f) (zip cs fs)

abbrev pub sums : List ℕ → List ℕ → List ℕ
sums fs cs = map (λ (f, c). f + c) (zip fs cs)

-- the coordinates of a cell within its tile are its distances from the tile's first coordinates
pub differences-firsts : (ns ms at : List ℕ) → IsTiling ns ms → in_bounds ns at ≡ true → differences at (firsts (quotients at ms) ms) ≡ remainders at ms
differences-firsts [] [] [] t h = refl
differences-firsts [] [] (c ∷ cs) t h = cc
differences-firsts [] (m ∷ ms) at t h = elim t [ ]
differences-firsts (n ∷ ns) [] at t h = elim t [ ]
differences-firsts (n ∷ ns) (m ∷ ms) [] t h = cc
differences-firsts (n ∷ ns) (m ∷ ms) (c ∷ cs) t h =
    let parts = div-add-mod' c m in
    let here : c - c / m * m ≡ c % m = omega (arith, parts) in
    (λ i. here i ∷ differences-firsts ns ms cs t.1 (in_bounds-parts n ns c cs h).1 i)

pub tile_from-tile_of : (ns ms at : List ℕ) (n : ℕ) → IsTiling ns ms → in_bounds ns at ≡ true → tile_of ns ms at ≡ n → tile_from ns ms n ≡ firsts (quotients at ms) ms
tile_from-tile_of ns ms at n t h e = ap (tile_from ns ms) (sym e) ∙ ap (λ qs. firsts qs ms) (coordinates_of-tile_of ns ms at t h)

pub sums-firsts : (ns ms at : List ℕ) → IsTiling ns ms → in_bounds ns at ≡ true → sums (firsts (quotients at ms) ms) (remainders at ms) ≡ at
sums-firsts [] [] [] t h = refl
sums-firsts [] [] (c ∷ cs) t h = cc
sums-firsts [] (m ∷ ms) at t h = elim t [ ]
sums-firsts (n ∷ ns) [] at t h = elim t [ ]
sums-firsts (n ∷ ns) (m ∷ ms) [] t h = cc
sums-firsts (n ∷ ns) (m ∷ ms) (c ∷ cs) t h = (λ i. div-add-mod' c m i ∷ sums-firsts ns ms cs t.1 (in_bounds-parts n ns c cs h).1 i)
