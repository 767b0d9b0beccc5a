-- The numbers of the first chunks of an array, one chunk after the other.
-- Used by the proofs of `Summed`, `chunks_share_no_cell` and `records_of_chunks_make_the_array`.
use Rattle.std.proofs.Common.{◌≡◌, ℕ, zero, suc, ◌+◌, ◌≤◌, ◌<◌, nat_lt, ◌==◌, List, [], ◌++◌, length, get_or, filter_map, fold, ℤ, sym, ap, ◌∙◌, arith}
use Rattle.std.specs.List.{range_with_len}
use Rattle.std.proofs.lemmas.Bool.{lt-ltb, eqb-true}
use Rattle.std.proofs.lemmas.List.Sums.{sum_by-append}
use Rattle.grids.specs.Coordinates.{coordinates_of}
use Rattle.cells.specs.Cells.{cell_value, empty_cell}
use Rattle.layouts.specs.Chunks.{chunk_cells, chunk_count, cell_chunk, cell_index}
use Rattle.layouts.specs.declared.numbers.LayoutNumbers.{LayoutNumbers}
use Rattle.lists.specs.Numbers.{product, HaveSameItems}
use Rattle.lists.proofs.Shares.{not_below, weight-below_more}
use Rattle.lists.proofs.Weights.{length-sum_by, weight_at, weight-filter_map}
use Rattle.chunk_store.specs.FirstChunks.{cells_of_chunks, places_of_chunk, places_of_first_chunks, numbers_at, chunk_numbers, numbers_of_chunk, numbers_of_first_chunks}
use Rattle.cells.specs.Records.{record_of, merged}
use Rattle.layouts.specs.Rules.{IsLayout}
use Rattle.cells.specs.declared.cell.Cell.{Cell}
use Rattle.cells.specs.declared.record.Record.{Record}
use Rattle.lists.proofs.Members.{IsIn, in_filter_cases, filter_whole, filter_none}
use Rattle.grids.proofs.Coordinates.{in_bounds-coordinates_of}
use Rattle.lists.proofs.Filters.{length-filter-le, filter_map-map, filter_map-agree}
use Rattle.lists.proofs.Ranges.{in_range, length-range}
use Rattle.grids.proofs.TileIndices.{index_in_tile-below}
use Rattle.grids.proofs.Tilings.{tile_of-below}

-- ---- how many places there are

pub length-places-more : (l : LayoutNumbers) (m : ℕ) → length (places_of_first_chunks l (m + 1)) ≡ length (places_of_first_chunks l m) + length (places_of_chunk l m)
length-places-more l m =
    sym (length-sum_by (places_of_first_chunks l (m + 1))) ∙ weight-below_more (λ _. 1) (cell_chunk l) m (range_with_len 0 (product l.extents))
    ∙ (λ i. length-sum_by (places_of_first_chunks l m) i + length-sum_by (places_of_chunk l m) i)

pub length-places-le : (l : LayoutNumbers) (m : ℕ) → length (places_of_first_chunks l m) ≤ product l.extents
length-places-le l m =
    let all = length-range 0 (product l.extents) in
    let some = length-filter-le (λ k. nat_lt (cell_chunk l k) m) (range_with_len 0 (product l.extents)) in omega (arith, all, some)

-- ---- the numbers of one more chunk

pub numbers-weights : (l : LayoutNumbers) (f : ℕ → ℕ → Cell) (m : ℕ) → HaveSameItems (numbers_of_first_chunks l f (m + 1)) (numbers_of_first_chunks l f m ++ numbers_of_chunk l f m)
numbers-weights l f m weight =
    let h = λ (k : ℕ). cell_value (f (cell_chunk l k) (cell_index l k)) in
    weight-filter_map weight h (places_of_first_chunks l (m + 1))
    ∙ weight-below_more (weight_at weight h) (cell_chunk l) m (range_with_len 0 (product l.extents))
    ∙ (λ i. sym (weight-filter_map weight h (places_of_first_chunks l m)) i + sym (weight-filter_map weight h (places_of_chunk l m)) i)
    ∙ sym (sum_by-append weight (numbers_of_first_chunks l f m) (numbers_of_chunk l f m))

pub numbers-none : (l : LayoutNumbers) (f : ℕ → ℕ → Cell) → numbers_of_first_chunks l f 0 ≡ []
numbers-none l f = ap (numbers_at l f) (filter_none (λ k. nat_lt (cell_chunk l k) 0) (range_with_len 0 (product l.extents)) (λ k _. not_below (cell_chunk l k)))

-- the record of one more chunk, by what is known about the records of two lists
pub record-more : ((xs ys : List ℤ) → record_of (xs ++ ys) ≡ merged (record_of xs) (record_of ys)) → ((xs ys : List ℤ) → HaveSameItems xs ys → record_of xs ≡ record_of ys)
    → (l : LayoutNumbers) (f : ℕ → ℕ → Cell) (m : ℕ) → record_of (numbers_of_first_chunks l f (m + 1)) ≡ merged (record_of (numbers_of_first_chunks l f m)) (record_of (numbers_of_chunk l f m))
record-more both same l f m =
    same (numbers_of_first_chunks l f (m + 1)) (numbers_of_first_chunks l f m ++ numbers_of_chunk l f m) (numbers-weights l f m)
    ∙ both (numbers_of_first_chunks l f m) (numbers_of_chunk l f m)

pub numbers-all : (l : LayoutNumbers) (f : ℕ → ℕ → Cell) → IsLayout l → numbers_of_first_chunks l f (chunk_count l) ≡ filter_map cell_value (cells_of_chunks l f)
numbers-all l f is =
    let all = range_with_len 0 (product l.extents) in
    let tiling = is.facts.chunk_tiles in
    ap (numbers_at l f)
    (filter_whole (λ k. nat_lt (cell_chunk l k) (chunk_count l)) all
    (λ k i. lt-ltb (cell_chunk l k) (chunk_count l) (tile_of-below l.extents l.chunk (coordinates_of l.extents k) tiling (in_bounds-coordinates_of l.extents k (omega (arith, (in_range 0 (product l.extents) k i).1))))))
    ∙ sym (filter_map-map cell_value (λ k. f (cell_chunk l k) (cell_index l k)) all)

-- the cells of a chunk give the numbers of the chunk
pub numbers-cells : (l : LayoutNumbers) (f : ℕ → ℕ → Cell) (n : ℕ) (chunk : List Cell) → IsLayout l → ((p : ℕ) → p < chunk_cells l → get_or chunk p empty_cell ≡ f n p) → chunk_numbers l n chunk ≡ numbers_of_chunk l f n
numbers-cells l f n chunk is cells =
    filter_map-agree (λ k. cell_value (get_or chunk (cell_index l k) empty_cell)) (λ k. cell_value (f (cell_chunk l k) (cell_index l k))) (places_of_chunk l n) each
  where
    each : (k : ℕ) → IsIn k (places_of_chunk l n) → cell_value (get_or chunk (cell_index l k) empty_cell) ≡ cell_value (f (cell_chunk l k) (cell_index l k))
    each k i =
        let m = in_filter_cases (λ k. cell_chunk l k == n) (range_with_len 0 (product l.extents)) k i in
        let inside : k < product l.extents = omega (arith, (in_range 0 (product l.extents) k m.0).1) in
        let place = index_in_tile-below l.extents l.chunk (coordinates_of l.extents k) is.facts.chunk_tiles (in_bounds-coordinates_of l.extents k inside) in
        ap cell_value (cells (cell_index l k) place ∙ ap (λ c. f c (cell_index l k)) (sym (eqb-true (cell_chunk l k) n m.1)))

-- ---- all chunks

-- the record so far and the record of one more chunk
abbrev pub with_chunk : LayoutNumbers → (ℕ → ℕ → Cell) → Record → ℕ → Record
with_chunk l f all n = merged all (record_of (numbers_of_chunk l f n))

module _ (both : (xs ys : List ℤ) → record_of (xs ++ ys) ≡ merged (record_of xs) (record_of ys)) (same : (xs ys : List ℤ) → HaveSameItems xs ys → record_of xs ≡ record_of ys) where
  record-from : (l : LayoutNumbers) (f : ℕ → ℕ → Cell) (a n : ℕ) → fold (with_chunk l f) (record_of (numbers_of_first_chunks l f a)) (range_with_len a n) ≡ record_of (numbers_of_first_chunks l f (a + n))
  record-from l f a zero = let same : a ≡ a + 0 = omega arith in ap (λ m. record_of (numbers_of_first_chunks l f m)) same
  record-from l f a (suc n) =
      let next : (a + 1) + n ≡ a + suc n = omega arith in
      ap (λ r. fold (with_chunk l f) r (range_with_len (a + 1) n)) (sym (record-more both same l f a))
      ∙ record-from l f (a + 1) n ∙ ap (λ m. record_of (numbers_of_first_chunks l f m)) next

  pub record-chunks : (l : LayoutNumbers) (f : ℕ → ℕ → Cell) → IsLayout l → record_of (filter_map cell_value (cells_of_chunks l f)) ≡ fold (with_chunk l f) (record_of []) (range_with_len 0 (chunk_count l))
  record-chunks l f is =
      let all : 0 + chunk_count l ≡ chunk_count l = omega arith in
      ap record_of (sym (numbers-all l f is)) ∙ ap (λ m. record_of (numbers_of_first_chunks l f m)) (sym all) ∙ sym (record-from l f 0 (chunk_count l))
      ∙ ap (λ r. fold (with_chunk l f) r (range_with_len 0 (chunk_count l))) (ap record_of (numbers-none l f))
