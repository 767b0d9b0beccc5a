-- The cells of a chunk of a file.
-- Used in this crate alone.
use Rattle.std.specs.Prelude.{◌≡◌, ℕ, ◌+◌, ◌*◌, List, ℤ, refl, length, map, Option, Some, None}
use Rattle.std.specs.List.{range_with_len}
use Rattle.std.specs.Coded.{Coded, code_by, coded_ℤ, coded_list, Coded-set, Unit-prop}
use Rattle.layouts.specs.declared.numbers.LayoutNumbers.{LayoutNumbers}
use Rattle.layouts.specs.Chunks.{chunk_cells}
use Rattle.chunk_store.specs.FirstChunks.{ReachesFirstChunks, HasFirstChunks}
use Rattle.cells.specs.declared.cell.Cell.{Cell}
use Rattle.array_file.specs.Stored.{cell_at, chunk_start}

-- the n cells in the bytes from an offset on
unfoldable pub cells_from : List ℕ → ℕ → ℕ → List Cell
cells_from bytes at n = map (λ k. cell_at bytes (at + 4 * k)) (range_with_len 0 n)

-- these are the cells in the bytes from an offset on, where the bytes are told
abbrev pub HoldsFrom : Option (List ℕ) → ℕ → List Cell → Type 0
HoldsFrom None at cells = Unit {0}
HoldsFrom (Some bytes) at cells = cells ≡ cells_from bytes at (length cells)

-- the cells of chunk n of a file of this layout, in their order in the file, padding included
abbrev pub chunk_of_file : LayoutNumbers → List ℕ → ℕ → List Cell
chunk_of_file l bytes n = cells_from bytes (chunk_start l n) (chunk_cells l)

-- these are the cells of chunk n, if the bytes are told
abbrev pub HoldsChunk : Option (List ℕ) → LayoutNumbers → ℕ → List Cell → Type 0
HoldsChunk None l n cells = Unit {0}
HoldsChunk (Some bytes) l n cells = cells ≡ chunk_of_file l bytes n

-- the cell of chunk n of a file of this layout, at index p of the chunk
abbrev pub cell_of_chunk : LayoutNumbers → List ℕ → ℕ → ℕ → Cell
cell_of_chunk l bytes n p = cell_at bytes (chunk_start l n + 4 * p)

-- a list has some first cells of the array, among them those of the first m chunks. These are the file's, if the bytes are told
abbrev pub HoldsFirstChunks : Option (List ℕ) → LayoutNumbers → ℕ → List Cell → Type 0
HoldsFirstChunks None l m cells = ReachesFirstChunks l m cells
HoldsFirstChunks (Some bytes) l m cells = HasFirstChunks l (cell_of_chunk l bytes) m cells

-- cells as numbers
abbrev pub coded_cell : Coded Cell
coded_cell = code_by ℤ coded_ℤ (λ c. c.0) (λ z. record { 0 = z }) (λ c. refl)

-- any two proofs of `HoldsChunk` are equal
pub HoldsChunk-prop : (told : Option (List ℕ)) (l : LayoutNumbers) (n : ℕ) (cells : List Cell) → IsProp (HoldsChunk told l n cells)
HoldsChunk-prop None l n cells = Unit-prop
HoldsChunk-prop (Some bytes) l n cells = Coded-set (coded_list coded_cell) _ _
