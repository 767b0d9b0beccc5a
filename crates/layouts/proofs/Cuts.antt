-- Chunks are cut to the array.
-- Used by the proofs of `cuts`.
use Rattle.std.proofs.Common.{◌≡◌, ℕ, ◌<◌, true, List, [], ◌∷◌, length, get_or, All, refl, sym, ap, ◌∙◌, subst, arith}
use Rattle.std.proofs.lemmas.List.Elements.{All-cons, All-nil}
use Rattle.grids.specs.Coordinates.{coordinates_of, in_bounds}
use Rattle.grids.specs.Tiles.{IsTiling, pieces_of, grid_of}
use Rattle.grids.proofs.Coordinates.{in_bounds-parts, in_bounds-coordinates_of}
use Rattle.grids.proofs.Tilings.{starts_within, firsts, lasts}
use Rattle.layouts.specs.Chunks.{chunk_count, chunk_rect}
use Rattle.layouts.specs.Cuts.{IsCut, AreCuts}
use Rattle.layouts.specs.Rules.{IsLayout}
use Rattle.layouts.specs.declared.cut.Cut.{Cut}
use Rattle.layouts.specs.declared.numbers.LayoutNumbers.{LayoutNumbers}
use Rattle.cells.specs.declared.rect.Rect.{Rect}

-- the cuts of a tile, dimension by dimension
abbrev pub cuts : List ℕ → List ℕ → List ℕ → List ℕ → List Cut
cuts [] ms fs ts = []
cuts (n ∷ ns) [] fs ts = []
cuts (n ∷ ns) (m ∷ ms) [] ts = []
cuts (n ∷ ns) (m ∷ ms) (f ∷ fs) [] = []
cuts (n ∷ ns) (m ∷ ms) (f ∷ fs) (t ∷ ts) = record { extent = n; length = m; from = f; to = t } ∷ cuts ns ms fs ts

cuts-lists : (ns ms qs : List ℕ) → IsTiling ns ms → in_bounds (grid_of ns ms) qs ≡ true → All IsCut (cuts ns ms (firsts qs ms) (lasts ns qs ms))
cuts-lists [] ms qs t g = All-nil IsCut
cuts-lists (n ∷ ns) [] qs t g = elim t [ ]
cuts-lists (n ∷ ns) (m ∷ ms) [] t g = cc
cuts-lists (n ∷ ns) (m ∷ ms) (q ∷ qs) t g =
    let p = in_bounds-parts (pieces_of n m) (grid_of ns ms) q qs g in
    let here = starts_within n m q t.0 p.0 in
    All-cons IsCut _ (cuts ns ms (firsts qs ms) (lasts ns qs ms)) (record { some = omega (arith, here, t.0); within = omega arith; short = omega arith; end = refl }) (cuts-lists ns ms qs t.1 p.1)

-- the lists of three that the code makes
abbrev cut_at : List ℕ → List ℕ → Rect → ℕ → Cut
cut_at ns ms r d = record { extent = get_or ns d 0; length = get_or ms d 0; from = get_or r.from d 0; to = get_or r.to d 0 }

abbrev pub cuts-three : List ℕ → List ℕ → Rect → List Cut
cuts-three ns ms r = cut_at ns ms r 0 ∷ cut_at ns ms r 1 ∷ cut_at ns ms r 2 ∷ []

three_is : (ns ms fs ts : List ℕ) → length ns ≡ 3 → length ms ≡ 3 → length fs ≡ 3 → length ts ≡ 3 → cuts-three ns ms (record { from = fs; to = ts }) ≡ cuts ns ms fs ts
three_is (n ∷ n2 ∷ n3 ∷ []) (m ∷ m2 ∷ m3 ∷ []) (f ∷ f2 ∷ f3 ∷ []) (t ∷ t2 ∷ t3 ∷ []) a b c d = refl
three_is ns ms fs ts a b c d = absurd (omega arith)

pub three_items : (ns : List ℕ) → length ns ≡ 3 → get_or ns 0 0 ∷ get_or ns 1 0 ∷ get_or ns 2 0 ∷ [] ≡ ns
three_items (n ∷ n2 ∷ n3 ∷ []) e = refl
three_items ns e = absurd (omega arith)

chunk_cuts : (l : LayoutNumbers) (n : ℕ) (r : Rect) → IsLayout l → n < chunk_count l → r ≡ chunk_rect l n → length r.from ≡ 3 → length r.to ≡ 3 → All IsCut (cuts-three l.extents l.chunk r)
chunk_cuts l n r is below e from_long to_long =
    let all = cuts-lists l.extents l.chunk (coordinates_of (grid_of l.extents l.chunk) n) is.facts.chunk_tiles (in_bounds-coordinates_of (grid_of l.extents l.chunk) n below) in
    subst (All IsCut)
    (sym (three_is l.extents l.chunk r.from r.to is.extents is.chunk from_long to_long ∙ (λ i. cuts l.extents l.chunk (e i).from (e i).to))) all

pub are_cuts : (l : LayoutNumbers) (n : ℕ) (r : Rect) → IsLayout l → n < chunk_count l → r ≡ chunk_rect l n → length r.from ≡ 3 → length r.to ≡ 3 → AreCuts l n (cuts-three l.extents l.chunk r)
are_cuts l n r is below e from_long to_long = record {
  extents = three_items l.extents is.extents;
  lengths = three_items l.chunk is.chunk;
  from = three_items r.from from_long ∙ ap (λ (q : Rect). q.from) e;
  to = three_items r.to to_long ∙ ap (λ (q : Rect). q.to) e;
  each = chunk_cuts l n r is below e from_long to_long;
}
