-- Whole files are read as they were written.
-- Used by the proofs of `written_array_has_its_size`, `written_array_is_accepted` and `written_array_is_stored`.
use Rattle.std.proofs.Common.{◌≡◌, ℕ, zero, suc, ◌+◌, ◌*◌, ◌<◌, List, ◌++◌, All, length, take, drop, map, get_or, None, pos, FitsSigned, sym, ap, ◌∙◌, arith, append_assoc, length-append}
use Rattle.std.specs.Int.{cast_signed, cast_unsigned}
use Rattle.std.specs.List.{range_with_len}
use mir.Syntax.{w32}
use Rattle.std.proofs.Math.Facts.{Fits-of_z, to_z-of_z}
use Rattle.std.proofs.Math.Seq.{take-append_seam, drop-append_seam}
use Rattle.std.proofs.lemmas.List.{length-take-le, take-append-drop}
use Rattle.std.proofs.lemmas.List.FromFn.{fill_by_all, length-map-range_with_len}
use Rattle.std.proofs.lemmas.Simd.{map-map}
use Rattle.byteorder.specs.Endian.{little_number}
use Rattle.byteorder.specs.Numbers.{little_number-reads_back}
use Rattle.grids.specs.Coordinates.{coordinates_of}
use Rattle.cells.specs.Cells.{cell_value, array_of}
use Rattle.layouts.specs.Chunks.{chunk_cells, chunk_count, cell_chunk, cell_index}
use Rattle.layouts.specs.declared.numbers.LayoutNumbers.{LayoutNumbers}
use Rattle.lists.specs.Numbers.{product}
use Rattle.chunk_copies.specs.Placing.{chunk_cell, chunk_of_cells}
use Rattle.layouts.specs.Rules.{IsLayout}
use Rattle.cells.specs.declared.cell.Cell.{Cell}
use Rattle.grids.proofs.Coordinates.{in_bounds-coordinates_of}
use Rattle.grids.proofs.TileIndices.{index_in_tile-below}
use Rattle.grids.proofs.Tilings.{tile_of-below}
use Rattle.array_file.specs.Header.{header_of, stored_layout, layout_refusal, file_size}
use Rattle.array_file.specs.Stored.{cell_at, chunk_start, cell_start, stored_cells, refusal_of, stored_array}
use Rattle.array_file.specs.Written.{bytes_of_cell, bytes_of_cells, bytes_of_chunks, array_bytes}
use Rattle.array_file.proofs.Headers.{length-header, stored_layout-header, layout_refusal-header}
use Rattle.array_file.proofs.Writings.{bytes_of_cells-append, length-bytes_of_cells, bytes_of_cells-more, bytes_of_chunks-nil, bytes_of_chunks-more, bytes_of_chunks-around}

-- ---- the size

length-chunk_of_cells : (l : LayoutNumbers) (cells : List Cell) (n : ℕ) → length (chunk_of_cells l cells n) ≡ chunk_cells l
length-chunk_of_cells l cells n = length-map-range_with_len (chunk_cell l cells n) 0 (chunk_cells l)

length-bytes_of_chunks : (l : LayoutNumbers) (cells : List Cell) (n : ℕ) → length (bytes_of_chunks l cells n) ≡ 4 * chunk_cells l * n
length-bytes_of_chunks l cells zero = ap length (bytes_of_chunks-nil l cells) ∙ grind arith
length-bytes_of_chunks l cells (suc n) =
    let next : suc n ≡ n + 1 = omega arith in
    let before = length-bytes_of_chunks l cells n in
    let chunk = length-bytes_of_cells (chunk_of_cells l cells n) ∙ ap (λ m. 4 * m) (length-chunk_of_cells l cells n) in
    ap (λ m. length (bytes_of_chunks l cells m)) next ∙ ap length (bytes_of_chunks-more l cells n)
    ∙ length-append (bytes_of_chunks l cells n) (bytes_of_cells (chunk_of_cells l cells n)) ∙ (λ i. before i + chunk i) ∙ step (chunk_cells l) n ∙ ap (λ m. 4 * chunk_cells l * m) (sym next)
  where
    step : (c n : ℕ) → 4 * c * n + 4 * c ≡ 4 * c * (n + 1)
    step c n = grind arith

-- the file has the size of its layout
pub length-array_bytes : (l : LayoutNumbers) (cells : List Cell) → IsLayout l → length (array_bytes l cells) ≡ file_size l
unfolding array_bytes
length-array_bytes l cells is =
    let chunks = bytes_of_chunks l cells (chunk_count l) in
    length-append (header_of l) chunks ∙ (λ i. length-header l is i + length-bytes_of_chunks l cells (chunk_count l) i)

-- ---- the header

take-array_bytes : (l : LayoutNumbers) (cells : List Cell) → IsLayout l → take 96 (array_bytes l cells) ≡ header_of l
unfolding array_bytes
take-array_bytes l cells is =
    let bytes = header_of l ++ bytes_of_chunks l cells (chunk_count l) in
    ap (λ n. take n bytes) (sym (length-header l is)) ∙ take-append_seam (header_of l) (bytes_of_chunks l cells (chunk_count l))

-- the file is accepted
pub refusal_of-array_bytes : (l : LayoutNumbers) (cells : List Cell) → IsLayout l → refusal_of (array_bytes l cells) ≡ None
refusal_of-array_bytes l cells is =
    (λ i. layout_refusal (take-array_bytes l cells is i) (length-array_bytes l cells is i)) ∙ layout_refusal-header l is

-- its header states the layout
stored_layout-array_bytes : (l : LayoutNumbers) (cells : List Cell) → IsLayout l → stored_layout (take 96 (array_bytes l cells)) ≡ l
stored_layout-array_bytes l cells is = ap stored_layout (take-array_bytes l cells is) ∙ stored_layout-header l is

-- ---- the cells

-- the bytes of cells around those of the p-th
bytes_of_cells-around : (cells : List Cell) (p : ℕ) (d : Cell) → p < length cells
    → bytes_of_cells (take p cells) ++ (bytes_of_cell (get_or cells p d) ++ bytes_of_cells (drop (p + 1) cells)) ≡ bytes_of_cells cells
bytes_of_cells-around cells p d below =
    let rest = bytes_of_cells (drop (p + 1) cells) in
    sym (append_assoc (bytes_of_cells (take p cells)) (bytes_of_cell (get_or cells p d)) rest) ∙ ap (λ b. b ++ rest) (sym (bytes_of_cells-more cells p d below))
    ∙ sym (bytes_of_cells-append (take (p + 1) cells) (drop (p + 1) cells)) ∙ ap bytes_of_cells (take-append-drop (p + 1) cells)

-- a cell that was written is read
cell_at-written : (prefix back : List ℕ) (c : Cell) (at : ℕ) → FitsSigned w32 c.0 → length prefix ≡ at → cell_at (prefix ++ (bytes_of_cell c ++ back)) at ≡ c
unfolding cell_at
cell_at-written prefix back c at fits here =
    let bytes = prefix ++ (bytes_of_cell c ++ back) in
    let cell : ℕ → Cell = λ x. record { 0 = cast_signed w32 x } in
    let there : drop at bytes ≡ bytes_of_cell c ++ back = ap (λ n. drop n bytes) (sym here) ∙ drop-append_seam prefix (bytes_of_cell c ++ back) in
    let number : little_number 4 (bytes_of_cell c ++ back) ≡ cast_unsigned w32 c.0 = little_number-reads_back 4 (cast_unsigned w32 c.0) back (Fits-of_z fits).fits in
    ap cell (ap (little_number 4) there ∙ number) ∙ (λ i. record { 0 = to_z-of_z fits i })

-- five lists one after the other, the first two before the others
regrouped : (a b c d e rest : List ℕ) → a ++ (b ++ ((c ++ (d ++ e)) ++ rest)) ≡ (a ++ (b ++ c)) ++ (d ++ (e ++ rest))
regrouped a b c d e rest =
    ap (λ x. a ++ (b ++ x)) (append_assoc c (d ++ e) rest ∙ ap (λ x. c ++ x) (append_assoc d e rest))
    ∙ ap (λ x. a ++ x) (sym (append_assoc b c (d ++ (e ++ rest)))) ∙ sym (append_assoc a (b ++ c) (d ++ (e ++ rest)))

-- the file as the bytes before the cell at place p of chunk n, its bytes, and the bytes after it
around_cell : (l : LayoutNumbers) (cells : List Cell) (n p : ℕ) (d : Cell) → n < chunk_count l → p < chunk_cells l
    → (back : List ℕ) × (array_bytes l cells
    ≡ (header_of l ++ (bytes_of_chunks l cells n ++ bytes_of_cells (take p (chunk_of_cells l cells n)))) ++ (bytes_of_cell (get_or (chunk_of_cells l cells n) p d) ++ back))
unfolding array_bytes
around_cell l cells n p d here inside =
    let chunk = chunk_of_cells l cells n in
    let chunks = bytes_of_chunks-around l cells n (chunk_count l) here in
    let others = bytes_of_cells-around chunk p d (omega (arith, length-chunk_of_cells l cells n, inside)) in
    let first = bytes_of_cells (take p chunk) in
    let cell = bytes_of_cell (get_or chunk p d) in
    let later = bytes_of_cells (drop (p + 1) chunk) in (
      later ++ chunks.0,
      ap (λ b. header_of l ++ b) (sym chunks.1 ∙ ap (λ b. bytes_of_chunks l cells n ++ (b ++ chunks.0)) (sym others))
          ∙ regrouped (header_of l) (bytes_of_chunks l cells n) first cell later chunks.0,
    )

-- the bytes of the cell begin at its offset
length-before_cell : (l : LayoutNumbers) (cells : List Cell) (n p : ℕ) → IsLayout l → p < chunk_cells l
    → length (header_of l ++ (bytes_of_chunks l cells n ++ bytes_of_cells (take p (chunk_of_cells l cells n)))) ≡ chunk_start l n + 4 * p
length-before_cell l cells n p is inside =
    let chunk = chunk_of_cells l cells n in
    let first = bytes_of_cells (take p chunk) in
    let long : length first ≡ 4 * p = length-bytes_of_cells (take p chunk) ∙ ap (λ m. 4 * m) (length-take-le p chunk (omega (arith, length-chunk_of_cells l cells n, inside))) in
    let all = length-append (header_of l) (bytes_of_chunks l cells n ++ first) in
    let chunks = length-append (bytes_of_chunks l cells n) first in
    let header = length-header l is in
    let before = length-bytes_of_chunks l cells n in
    omega (arith, all, chunks, header, before, long)

-- each cell of the array is taken with its chunk
abbrev TakesCells : Type 0
TakesCells = (l : LayoutNumbers) (cells : List Cell) (k : ℕ) (d : Cell) → IsLayout l → length cells ≡ product l.extents → k < product l.extents
    → get_or (chunk_of_cells l cells (cell_chunk l k)) (cell_index l k) d ≡ get_or cells k d

-- the k-th cell is at its place
cell_at-array_bytes : TakesCells → (l : LayoutNumbers) (cells : List Cell) (k : ℕ) (d : Cell) → IsLayout l → length cells ≡ product l.extents → All (λ c. FitsSigned w32 c.0) cells
    → k < product l.extents → get_or cells k d ≡ cell_at (array_bytes l cells) (cell_start l k)
cell_at-array_bytes takes l cells k d is long fits inside =
    let n = cell_chunk l k in
    let p = cell_index l k in
    let at = coordinates_of l.extents k in
    let tiling = is.facts.chunk_tiles in
    let place = in_bounds-coordinates_of l.extents k inside in
    let here = tile_of-below l.extents l.chunk at tiling place in
    let there = index_in_tile-below l.extents l.chunk at tiling place in
    let taken = takes l cells k d is long inside in
    let prefix = header_of l ++ (bytes_of_chunks l cells n ++ bytes_of_cells (take p (chunk_of_cells l cells n))) in
    let around = around_cell l cells n p d here there in
    let whole : array_bytes l cells ≡ prefix ++ (bytes_of_cell (get_or cells k d) ++ around.0) = around.1 ∙ ap (λ c. prefix ++ (bytes_of_cell c ++ around.0)) taken in
    sym (ap (λ b. cell_at b (cell_start l k)) whole
    ∙ cell_at-written prefix around.0 (get_or cells k d) (cell_start l k) (fits k d (omega (arith, long, inside))) (length-before_cell l cells n p is there))

stored_cells-array_bytes : TakesCells → (l : LayoutNumbers) (cells : List Cell) → IsLayout l → length cells ≡ product l.extents → All (λ c. FitsSigned w32 c.0) cells
    → map cell_value cells ≡ stored_cells l (array_bytes l cells)
stored_cells-array_bytes takes l cells is long fits =
    let d : Cell = record { 0 = pos 0 } in
    let f : ℕ → Cell = λ k. cell_at (array_bytes l cells) (cell_start l k) in
    ap (map cell_value) (fill_by_all f cells (product l.extents) d long (λ k inside. cell_at-array_bytes takes l cells k d is long fits inside))
    ∙ map-map cell_value f (range_with_len 0 (product l.extents))

-- the file holds the array
pub stored_array-array_bytes : TakesCells → (l : LayoutNumbers) (cells : List Cell) → IsLayout l → length cells ≡ product l.extents → All (λ c. FitsSigned w32 c.0) cells
    → stored_array (array_bytes l cells) ≡ array_of l.rank l.extents cells
stored_array-array_bytes takes l cells is long fits =
    let same = stored_layout-array_bytes l cells is in
    let held = sym (stored_cells-array_bytes takes l cells is long fits) in
    (λ i. record { rank = (same i).rank; extents = (same i).extents; cells = stored_cells (same i) (array_bytes l cells) })
    ∙ (λ i. record { rank = l.rank; extents = l.extents; cells = held i })
