-- The record of all cells of a file.
-- Used in this crate alone.
use Rattle.std.specs.Prelude.{◌≡◌, ℕ, ◌*◌, ◌^◌, ◌≤◌, List, ℤ, length, take, filter_map, Option, Some, None}
use Rattle.layouts.specs.declared.numbers.LayoutNumbers.{LayoutNumbers}
use Rattle.lists.specs.Numbers.{IsWithin}
use Rattle.cells.specs.Records.{record_of}
use Rattle.chunk_store.specs.FirstChunks.{places_of_first_chunks, numbers_of_first_chunks}
use Rattle.cells.specs.declared.record.Record.{Record}
use Rattle.array_file.specs.Header.{stored_layout}
use Rattle.array_file.specs.Stored.{stored_cells, stored_array}
use Rattle.chunk_store.specs.Loaded.{cell_of_chunk}

-- the numbers among the cells of a file of this layout, in row-major order
abbrev pub stored_numbers : LayoutNumbers → List ℕ → List ℤ
stored_numbers l bytes = filter_map (λ c. c) (stored_cells l bytes)

-- this is their record, if the bytes are told
abbrev pub IsRecordOfCells : Option (List ℕ) → LayoutNumbers → Record → Type 0
IsRecordOfCells None l r = Unit {0}
IsRecordOfCells (Some bytes) l r = r ≡ record_of (stored_numbers l bytes)

-- if the layout is the one that the file's header states, this is the record of the array that the file holds, if its bytes are told
abbrev pub IsRecordOfArray : Option (List ℕ) → LayoutNumbers → Record → Type 0
IsRecordOfArray None l r = Unit {0}
IsRecordOfArray (Some bytes) l r = l ≡ stored_layout (take 96 bytes) → r ≡ record_of (filter_map (λ c. c) (stored_array bytes).cells)

-- this is the record of the first m chunks, if the bytes are told
abbrev pub IsRecordOfFirst : Option (List ℕ) → LayoutNumbers → ℕ → Record → Type 0
IsRecordOfFirst None l m r = Unit {0}
IsRecordOfFirst (Some bytes) l m r = r ≡ record_of (numbers_of_first_chunks l (cell_of_chunk l bytes) m)

-- this is the record of the first m chunks. It counts at most as many numbers as there are places, and its sum has the bound of that count
pub record SumsFirst (told : Option (List ℕ)) (l : LayoutNumbers) (m : ℕ) (r : Record) : Type 0 where
  pub is : IsRecordOfFirst told l m r
  pub few : r.count ≤ length (places_of_first_chunks l m)
  pub each : IsWithin r.sum (2 ^ 31 * r.count)
