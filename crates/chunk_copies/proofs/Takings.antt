-- Chunks that are taken from the cells of an array, by the cuts of a chunk.
-- Used by the proofs of `take_chunk` and `taken_chunks_have_each_cell`.
use Rattle.std.proofs.Common.{◌≡◌, ℕ, ◌+◌, ◌-◌, ◌*◌, ◌/◌, ◌%◌, ◌≤◌, ◌<◌, nat_le, nat_lt, Bool, ◌&&◌, inl, inr, List, [], ◌∷◌, length, get_or, map, replicate, All, if◌then◌else◌, refl, sym, ap, ◌∙◌, subst, arith}
use Rattle.std.proofs.lemmas.Bool.{cases_Bool}
use Rattle.std.proofs.lemmas.Bool.Decides.{nat_tests}
use Rattle.std.proofs.lemmas.List.{get_or_default, get_or-replicate, length-replicate}
use Rattle.std.proofs.lemmas.List.Elements.{All-cons, All-nil, All-head, All-tail}
use Rattle.std.proofs.lemmas.List.FromFn.{fill_by_all, get_or-map-range_with_len}
use Rattle.std.proofs.lemmas.Nat.{mod_below, div_below}
use Rattle.lists.specs.Numbers.{product}
use Rattle.grids.specs.Coordinates.{coordinates_of, index_of, in_bounds}
use Rattle.grids.specs.Tiles.{tile_from}
use Rattle.grids.proofs.Coordinates.{second_some, in_bounds-coordinates_of, index_of-coordinates_of, coordinates_of-index_of}
use Rattle.grids.proofs.TileIndices.{remainders, remainders-in_bounds, index_in_tile-below, sums, sums-firsts, tile_from-tile_of}
use Rattle.cells.specs.Cells.{empty_cell}
use Rattle.cells.specs.declared.cell.Cell.{Cell}
use Rattle.layouts.specs.Chunks.{chunk_cells, chunk_count, cell_chunk, cell_index}
use Rattle.layouts.specs.Cuts.{cut_extents, cut_lengths, cut_froms, IsCut, AreCuts}
use Rattle.layouts.specs.Rules.{IsLayout}
use Rattle.layouts.specs.declared.cut.Cut.{Cut}
use Rattle.layouts.specs.declared.numbers.LayoutNumbers.{LayoutNumbers}
use Rattle.chunk_copies.specs.Boxes.{source_size, target_size, is_copied, source_index, IsWithinBoth, CopiesBox}
use Rattle.chunk_copies.specs.Placing.{chunk_cell, chunk_of_cells}
use Rattle.chunk_copies.specs.declared.boxes.Stretch.{Stretch}

-- from the array to the chunk, in one dimension
abbrev pub from_array : Cut → Stretch
from_array c = record { count = c.to - c.from; source = c.extent; from = c.from; target = c.length; to = 0 }

sizes : (cs : List Cut) → (target_size (map from_array cs) ≡ product (cut_lengths cs)) × (source_size (map from_array cs) ≡ product (cut_extents cs))
sizes [] = (refl, refl)
sizes (c ∷ cs) = let rest = sizes cs in ((λ i. c.length * rest.0 i), (λ i. c.extent * rest.1 i))

-- what is copied of one dimension is what lies in the array
inside_array : (c : Cut) (k : ℕ) → IsCut c → k < c.length → (nat_le 0 k && nat_lt k (0 + (c.to - c.from))) ≡ nat_lt (c.from + k) c.extent
inside_array c k h below = let some = h.some in let end = h.end in grind (arith, nat_tests)

copied : (cs : List Cut) (p : ℕ) → All IsCut cs → p < product (cut_lengths cs) → is_copied (map from_array cs) p ≡ in_bounds (cut_extents cs) (sums (cut_froms cs) (coordinates_of (cut_lengths cs) p))
copied [] p h below = refl
copied (c ∷ cs) p h below =
    let size = (sizes cs).0 in
    let some = second_some p c.length (product (cut_lengths cs)) below in
    let here = inside_array c (p / product (cut_lengths cs)) (All-head IsCut c cs h) (div_below p (product (cut_lengths cs)) c.length some below) in
    let rest = copied cs (p % product (cut_lengths cs)) (All-tail IsCut c cs h) (mod_below p (product (cut_lengths cs)) some) in
    (λ i. (nat_le 0 (p / size i) && nat_lt (p / size i) (0 + (c.to - c.from))) && is_copied (map from_array cs) (p % size i))
    ∙ (λ i. here i && rest i)

source : (cs : List Cut) (p : ℕ) → source_index (map from_array cs) p ≡ index_of (cut_extents cs) (sums (cut_froms cs) (coordinates_of (cut_lengths cs) p))
source [] p = refl
source (c ∷ cs) p =
    let all = sizes cs in
    let rest = source cs (p % product (cut_lengths cs)) in
    let whole : c.from + (p / product (cut_lengths cs) - 0) ≡ c.from + p / product (cut_lengths cs) = omega arith in
    (λ i. (c.from + (p / all.0 i - 0)) * all.1 i + source_index (map from_array cs) (p % all.0 i))
    ∙ (λ i. whole i * product (cut_extents cs) + rest i)

pub within : (cs : List Cut) → All IsCut cs → All IsWithinBoth (map from_array cs)
within [] h = All-nil IsWithinBoth
within (c ∷ cs) h =
    let here = All-head IsCut c cs h in
    let a = here.some in
    let b = here.within in
    let d = here.short in
    All-cons IsWithinBoth (from_array c) (map from_array cs) (omega (arith, a, b, d), omega (arith, a, b, d)) (within cs (All-tail IsCut c cs h))

pub source_fits : (cs : List Cut) (ns : List ℕ) (n : ℕ) → cut_extents cs ≡ ns → n ≡ product ns → source_size (map from_array cs) ≤ n
source_fits cs ns n same long = let size = (sizes cs).1 ∙ ap product same in omega (arith, size, long)

pub target_fits : (cs : List Cut) (ms : List ℕ) (n : ℕ) → cut_lengths cs ≡ ms → n ≡ product ms → target_size (map from_array cs) ≡ n
target_fits cs ms n same long = (sizes cs).0 ∙ ap product same ∙ sym long

-- ---- the cells of a chunk

pub takes_chunk : (l : LayoutNumbers) (n : ℕ) (cs : List Cut) (cells old new : List Cell) → IsLayout l → n < chunk_count l
    → AreCuts l n cs → old ≡ replicate (chunk_cells l) empty_cell → CopiesBox (map from_array cs) cells old new → new ≡ chunk_of_cells l cells n
takes_chunk l n cs cells old new is below cuts empty box =
    let ns = l.extents in
    let ms = l.chunk in
    let size : length old ≡ chunk_cells l = ap length empty ∙ length-replicate (chunk_cells l) empty_cell in
    fill_by_all (chunk_cell l cells n) new (chunk_cells l) empty_cell (box.long ∙ size)
    (λ p inside.
    let at = sums (tile_from ns ms n) (coordinates_of ms p) in
    let same = copied cs p cuts.each (subst (λ m. p < product m) (sym cuts.lengths) inside) ∙ (λ i. in_bounds (cuts.extents i) (sums (cuts.from i) (coordinates_of (cuts.lengths i) p))) in
    let from = source cs p ∙ (λ i. index_of (cuts.extents i) (sums (cuts.from i) (coordinates_of (cuts.lengths i) p))) in
    let yields : Bool → Cell = λ b. if b then get_or cells (index_of ns at) empty_cell else empty_cell in
    elim (cases_Bool (is_copied (map from_array cs) p)) [
      | inl held ↦ (
          box.copied p empty_cell (omega (arith, size)) held ∙ ap (λ k. get_or cells k empty_cell) from
          ∙ ap yields (sym held ∙ same)
          )
      | inr out ↦ (
          box.kept p empty_cell (omega (arith, size)) out ∙ ap (λ xs. get_or xs p empty_cell) empty ∙ get_or-replicate (chunk_cells l) p empty_cell empty_cell inside
          ∙ ap yields (sym out ∙ same)
          )
    ])

pub taken_cell : (l : LayoutNumbers) (cells : List Cell) (k : ℕ) (d : Cell) → IsLayout l → length cells ≡ product l.extents → k < product l.extents
    → get_or (chunk_of_cells l cells (cell_chunk l k)) (cell_index l k) d ≡ get_or cells k d
taken_cell l cells k d is long inside =
    let ns = l.extents in
    let ms = l.chunk in
    let at = coordinates_of ns k in
    let tiling = is.facts.chunk_tiles in
    let place = in_bounds-coordinates_of ns k inside in
    let n = cell_chunk l k in
    let p = cell_index l k in
    let below = index_in_tile-below ns ms at tiling place in
    let first = tile_from-tile_of ns ms at n tiling place refl in
    let rest = coordinates_of-index_of ms (remainders at ms) (remainders-in_bounds ns ms at tiling place) in
    let there : sums (tile_from ns ms n) (coordinates_of ms p) ≡ at = (λ i. sums (first i) (rest i)) ∙ sums-firsts ns ms at tiling place in
    let yields : List ℕ → Cell = λ cs. if in_bounds ns cs then get_or cells (index_of ns cs) empty_cell else empty_cell in
    get_or-map-range_with_len (chunk_cell l cells n) 0 (chunk_cells l) p p d below (omega arith)
    ∙ ap yields there ∙ ap (λ b. if b then get_or cells (index_of ns at) empty_cell else empty_cell) place
    ∙ ap (λ m. get_or cells m empty_cell) (index_of-coordinates_of ns k inside) ∙ get_or_default cells k empty_cell d (omega (arith, long))
