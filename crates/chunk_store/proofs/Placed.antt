-- Chunks of a file that are put in their places one after the other, if the bytes are told.
-- Used by the proofs of `add_chunk`, `add_chunks` and `add_records`.
use Rattle.std.proofs.Common.{inl, inr, pos, ◌==◌, ◌≡◌, ℕ, ◌+◌, ◌-◌, ◌*◌, ◌<◌, ◌≤◌, arith, zero, suc, List, length, map, Option, Some, None, sym, ap, ◌∙◌, get_or}
use Rattle.std.specs.List.{range_with_len}
use Rattle.std.proofs.lemmas.Simd.{map-map}
use Rattle.cells.specs.Cells.{cell_value}
use Rattle.layouts.specs.Chunks.{chunk_cells, chunk_count, cell_chunk, cell_index}
use Rattle.layouts.specs.declared.numbers.LayoutNumbers.{LayoutNumbers}
use Rattle.lists.specs.Numbers.{product}
use Rattle.chunk_copies.specs.Placing.{PlacesChunk}
use Rattle.layouts.specs.Rules.{IsLayout}
use Rattle.cells.specs.declared.cell.Cell.{Cell}
use Rattle.grids.proofs.Coordinates.{in_bounds-coordinates_of}
use Rattle.grids.proofs.TileIndices.{index_in_tile-below}
use Rattle.grids.proofs.Tilings.{tile_of-below}
use Rattle.grids.specs.Coordinates.{coordinates_of}
use Rattle.chunk_store.specs.FirstChunks.{ReachesFirstChunks, HasFirstChunks, cells_of_chunks}
use Rattle.std.proofs.lemmas.Bool.{eqb-true, eqb-false, cases_Bool}
use Rattle.std.proofs.lemmas.List.FromFn.{fill_by_all}
use Rattle.array_file.specs.Header.{file_size}
use Rattle.array_file.specs.Stored.{chunk_start, HoldsCells}
use Rattle.chunk_store.specs.Loaded.{cell_of_chunk, HoldsChunk, HoldsFirstChunks}
use Rattle.chunk_store.specs.Pieces.{chunk_end}
use Rattle.chunk_store.proofs.Held.{get_or-cells_from}

-- ---- one chunk after the other

earlier : (c m : ℕ) → (c ≡ m → ⊥) → c < m + 1 → c < m
earlier c m apart below = grind arith

-- a list of at most n items with n places has n items
all_reached : (n m : ℕ) → m ≤ n → ((k : ℕ) → k < n → k < m) → m ≡ n
all_reached zero m few there = omega arith
all_reached (suc n) m few there = let last = there n (omega arith) in omega (arith, last)

reaches_none : (l : LayoutNumbers) (cells : List Cell) → length cells ≤ product l.extents → ReachesFirstChunks l 0 cells
reaches_none l cells few = record { few = few; there = λ k inside below. absurd (omega arith) }

reaches_more : (l : LayoutNumbers) (m : ℕ) (chunk old new : List Cell) → ReachesFirstChunks l m old → PlacesChunk l m chunk old new → ReachesFirstChunks l (m + 1) new
reaches_more l m chunk old new before here =
    record {
      few = here.few;
      there = λ k inside below.
          elim (cases_Bool (cell_chunk l k == m)) [
            | inl at ↦ here.there k inside (eqb-true (cell_chunk l k) m at)
            | inr other ↦ (
                let apart = eqb-false (cell_chunk l k) m other in
                let held = before.there k inside (earlier (cell_chunk l k) m apart below) in
                let long = here.long in
                omega (arith, held, long)
                )
          ];
    }

reaches_all : (l : LayoutNumbers) (cells : List Cell) → IsLayout l → ReachesFirstChunks l (chunk_count l) cells → length cells ≡ product l.extents
reaches_all l cells is h =
    let tiling = is.facts.chunk_tiles in
    all_reached (product l.extents) (length cells) h.few
    (λ k inside. h.there k inside (tile_of-below l.extents l.chunk (coordinates_of l.extents k) tiling (in_bounds-coordinates_of l.extents k inside)))

pub first_chunks_none : (l : LayoutNumbers) (f : ℕ → ℕ → Cell) (cells : List Cell) → length cells ≤ product l.extents → HasFirstChunks l f 0 cells
first_chunks_none l f cells few = record { reaches = reaches_none l cells few; placed = λ k d inside below. absurd (omega arith) }

pub first_chunks_more : (l : LayoutNumbers) (f : ℕ → ℕ → Cell) (m : ℕ) (chunk old new : List Cell) → IsLayout l
    → ((p : ℕ) (d : Cell) → p < chunk_cells l → get_or chunk p d ≡ f m p) → HasFirstChunks l f m old → PlacesChunk l m chunk old new → HasFirstChunks l f (m + 1) new
first_chunks_more l f m chunk old new is cells before here =
    let tiling = is.facts.chunk_tiles in
    record {
      reaches = reaches_more l m chunk old new before.reaches here;
      placed = λ k d inside below.
          elim (cases_Bool (cell_chunk l k == m)) [
            | inl at ↦ (
                let same = eqb-true (cell_chunk l k) m at in
                let place = index_in_tile-below l.extents l.chunk (coordinates_of l.extents k) tiling (in_bounds-coordinates_of l.extents k inside) in
                here.placed k d inside same ∙ cells (cell_index l k) d place ∙ ap (λ c. f c (cell_index l k)) (sym same)
                )
            | inr other ↦ (
                let apart = eqb-false (cell_chunk l k) m other in
                let sooner = earlier (cell_chunk l k) m apart below in
                here.kept k d (before.reaches.there k inside sooner) apart ∙ before.placed k d inside sooner
                )
          ];
    }

pub first_chunks_all : (l : LayoutNumbers) (f : ℕ → ℕ → Cell) (cells : List Cell) → IsLayout l → HasFirstChunks l f (chunk_count l) cells → cells ≡ cells_of_chunks l f
first_chunks_all l f cells is h =
    let d : Cell = record { 0 = pos 0 } in
    let tiling = is.facts.chunk_tiles in
    fill_by_all (λ k. f (cell_chunk l k) (cell_index l k)) cells (product l.extents) d (reaches_all l cells is h.reaches)
    (λ k inside. h.placed k d inside (tile_of-below l.extents l.chunk (coordinates_of l.extents k) tiling (in_bounds-coordinates_of l.extents k inside)))

-- ---- if the bytes are told

pub none_placed : (told : Option (List ℕ)) (l : LayoutNumbers) (cells : List Cell) → length cells ≤ product l.extents → HoldsFirstChunks told l 0 cells
none_placed None l cells few = reaches_none l cells few
none_placed (Some bytes) l cells few = first_chunks_none l (cell_of_chunk l bytes) cells few

pub reaches_placed : (told : Option (List ℕ)) (l : LayoutNumbers) (m : ℕ) (cells : List Cell) → HoldsFirstChunks told l m cells → ReachesFirstChunks l m cells
reaches_placed None l m cells h = h
reaches_placed (Some bytes) l m cells h = h.reaches

pub length_placed : (told : Option (List ℕ)) (l : LayoutNumbers) (cells : List Cell) → IsLayout l → HoldsFirstChunks told l (chunk_count l) cells → length cells ≡ product l.extents
length_placed told l cells is h = reaches_all l cells is (reaches_placed told l (chunk_count l) cells h)

pub one_more_placed : (told : Option (List ℕ)) (l : LayoutNumbers) (m : ℕ) (chunk old new : List Cell) → IsLayout l → HoldsChunk told l m chunk → HoldsFirstChunks told l m old
    → PlacesChunk l m chunk old new → HoldsFirstChunks told l (m + 1) new
one_more_placed None l m chunk old new is held before here = reaches_more l m chunk old new before here
one_more_placed (Some bytes) l m chunk old new is held before here =
    first_chunks_more l (cell_of_chunk l bytes) m chunk old new is
    (λ p d below. ap (λ (xs : List Cell). get_or xs p d) held ∙ get_or-cells_from bytes (chunk_start l m) (chunk_cells l) p d below) before here

pub all_placed : (told : Option (List ℕ)) (l : LayoutNumbers) (cells : List Cell) → IsLayout l → HoldsFirstChunks told l (chunk_count l) cells → HoldsCells told l cells
all_placed None l cells is h = reaches_all l cells is h
all_placed (Some bytes) l cells is h =
    let f = cell_of_chunk l bytes in
    ap (map cell_value) (first_chunks_all l f cells is h) ∙ map-map cell_value (λ k. f (cell_chunk l k) (cell_index l k)) (range_with_len 0 (product l.extents))

-- ---- the offsets at which chunks begin and end

pub first_begins : (l : LayoutNumbers) → chunk_start l 0 ≡ 96
first_begins l = grind arith

pub starts_after_header : (l : LayoutNumbers) (n : ℕ) → 96 ≤ chunk_start l n
starts_after_header l n = omega arith

pub next_begins : (l : LayoutNumbers) (n : ℕ) → chunk_end l n ≡ chunk_start l (n + 1)
next_begins l n = grind arith

-- parts of one size: a part whose number is below the count ends before the end of all
part_ends : (size n count : ℕ) → n < count → 4 * size * n + 4 * size ≤ 4 * size * count
part_ends size n count below =
    let more = count - (n + 1) in
    let e : n + 1 + more ≡ count = omega arith in
    let many : size * count ≡ size * n + size + size * more = ap (λ m. size * m) (sym e) ∙ grind arith in
    omega (arith, many)

pub ends_within : (l : LayoutNumbers) (n : ℕ) → n < chunk_count l → chunk_end l n ≤ file_size l
ends_within l n below = let inside = part_ends (chunk_cells l) n (chunk_count l) below in omega (arith, inside)
