-- The record of the chunks of a file, one after the other, if the bytes are told.
-- Used by the proofs of `add_record` and `add_records`.
use Rattle.std.proofs.Common.{◌≡◌, ℕ, ◌+◌, ◌*◌, ◌^◌, ◌≤◌, arith, List, [], ◌++◌, length, filter_map, ℤ, pos, ◌+ℤ◌, SFits, w64, Option, Some, None, sym, ap, ◌∙◌, get_or}
use Rattle.std.specs.List.{range_with_len}
use Rattle.std.proofs.lemmas.Int.{ints}
use Rattle.cells.specs.Cells.{cell_value, empty_cell}
use Rattle.layouts.specs.Chunks.{chunk_cells, chunk_count, cell_chunk, cell_index}
use Rattle.layouts.specs.declared.numbers.LayoutNumbers.{LayoutNumbers}
use Rattle.lists.specs.Numbers.{product, IsWithin, HaveSameItems}
use Rattle.cells.specs.Records.{record_of}
use Rattle.layouts.specs.Rules.{IsLayout}
use Rattle.chunk_store.specs.FirstChunks.{places_of_chunk, chunk_numbers, numbers_of_chunk, numbers_of_first_chunks}
use Rattle.cells.specs.declared.cell.Cell.{Cell}
use Rattle.cells.specs.declared.record.Record.{Record}
use Rattle.chunk_store.proofs.FirstChunks.{length-places-more, length-places-le, numbers-none, numbers-all, numbers-cells, numbers-weights}
use Rattle.lists.proofs.Filters.{filter_map-map}
use Rattle.lists.proofs.Folds.{sums-fit}
use Rattle.array_file.specs.Stored.{cell_at, cell_start, chunk_start, stored_cells}
use Rattle.chunk_store.specs.Loaded.{cell_of_chunk, HoldsChunk}
use Rattle.chunk_store.specs.Summaries.{IsRecordOfCells, IsRecordOfArray, IsRecordOfFirst, SumsFirst}
use Rattle.chunk_store.proofs.Held.{get_or-cells_from}

-- ---- no chunk yet

no_record : (told : Option (List ℕ)) (l : LayoutNumbers) → IsRecordOfFirst told l 0 (record_of [])
no_record None l = tt
no_record (Some bytes) l = ap record_of (sym (numbers-none l (cell_of_chunk l bytes)))

pub none_summed : (told : Option (List ℕ)) (l : LayoutNumbers) → SumsFirst told l 0 (record { least = pos 0; greatest = pos 0; sum = pos 0; count = 0 })
none_summed told l = record { is = no_record told l; few = omega arith; each = record { low = omega (arith, ints); high = omega (arith, ints) } }

-- ---- one more chunk

-- what is known of a merged record
pub record IsMerge (old one new : Record) : Type 0 where
  pub meant : (xs ys all : List ℤ) → old ≡ record_of xs → one ≡ record_of ys → HaveSameItems all (xs ++ ys) → new ≡ record_of all
  pub count : new.count ≡ old.count + one.count
  pub each : IsWithin old.sum (2 ^ 31 * old.count) → IsWithin one.sum (2 ^ 31 * one.count) → IsWithin new.sum (2 ^ 31 * new.count)

next_record : (told : Option (List ℕ)) (l : LayoutNumbers) (m : ℕ) (chunk : List Cell) (old one new : Record) → IsLayout l → HoldsChunk told l m chunk → IsRecordOfFirst told l m old
    → one ≡ record_of (chunk_numbers l m chunk) → IsMerge old one new → IsRecordOfFirst told l (m + 1) new
next_record None l m chunk old one new is held before here merge = tt
next_record (Some bytes) l m chunk old one new is held before here merge =
    let f = cell_of_chunk l bytes in
    let numbers = numbers-cells l f m chunk is (λ p below. ap (λ (xs : List Cell). get_or xs p empty_cell) held ∙ get_or-cells_from bytes (chunk_start l m) (chunk_cells l) p empty_cell below) in
    merge.meant (numbers_of_first_chunks l f m) (numbers_of_chunk l f m) (numbers_of_first_chunks l f (m + 1)) before (here ∙ ap record_of numbers) (numbers-weights l f m)

pub one_more_summed : (told : Option (List ℕ)) (l : LayoutNumbers) (m : ℕ) (chunk : List Cell) (old one new : Record) → IsLayout l → HoldsChunk told l m chunk → SumsFirst told l m old
    → one ≡ record_of (chunk_numbers l m chunk) → one.count ≤ length (places_of_chunk l m) → IsWithin one.sum (2 ^ 31 * one.count) → IsMerge old one new → SumsFirst told l (m + 1) new
one_more_summed told l m chunk old one new is held before here few each merge =
    let counts = merge.count in
    let places = length-places-more l m in
    let so_far = before.few in
    record {
      is = next_record told l m chunk old one new is held before.is here merge;
      few = omega (arith, counts, places, so_far, few);
      each = merge.each before.each each;
    }

-- the counts and the sums are small enough to be added
pub counts_fit : (told : Option (List ℕ)) (l : LayoutNumbers) (m : ℕ) (old one : Record) → IsLayout l → SumsFirst told l m old → one.count ≤ length (places_of_chunk l m) → old.count + one.count ≤ 2 ^ 26
counts_fit told l m old one is before few =
    let cells = is.facts.cells in
    let places = length-places-more l m in
    let all = length-places-le l (m + 1) in
    let so_far = before.few in omega (arith, cells, places, all, so_far, few)

pub sums_fit : (told : Option (List ℕ)) (l : LayoutNumbers) (m : ℕ) (old one : Record) → IsLayout l → SumsFirst told l m old → one.count ≤ length (places_of_chunk l m)
    → IsWithin one.sum (2 ^ 31 * one.count) → SFits w64 (old.sum +ℤ one.sum)
sums_fit told l m old one is before few each = sums-fit old.sum one.sum old.count one.count before.each each (counts_fit told l m old one is before few)

-- ---- all chunks

pub all_summed : (told : Option (List ℕ)) (l : LayoutNumbers) (m : ℕ) (r : Record) → IsLayout l → m ≡ chunk_count l → SumsFirst told l m r → IsRecordOfCells told l r
all_summed None l m r is all h = tt
all_summed (Some bytes) l m r is all h =
    let f = cell_of_chunk l bytes in
    let places = range_with_len 0 (product l.extents) in
    h.is ∙ ap (λ n. record_of (numbers_of_first_chunks l f n)) all
    ∙ ap record_of (numbers-all l f is ∙ filter_map-map cell_value (λ k. f (cell_chunk l k) (cell_index l k)) places
    ∙ sym (filter_map-map (λ (c : Option ℤ). c) (λ k. cell_value (cell_at bytes (cell_start l k))) places))

pub count_summed : (told : Option (List ℕ)) (l : LayoutNumbers) (m : ℕ) (r : Record) → SumsFirst told l m r → r.count ≤ product l.extents
count_summed told l m r h = let few = h.few in let all = length-places-le l m in omega (arith, few, all)

pub array_summed : (told : Option (List ℕ)) (l : LayoutNumbers) (r : Record) → IsRecordOfCells told l r → IsRecordOfArray told l r
array_summed None l r h = tt
array_summed (Some bytes) l r h = λ e. h ∙ ap (λ m. record_of (filter_map (λ (c : Option ℤ). c) (stored_cells m bytes))) e
