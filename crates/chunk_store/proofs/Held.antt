-- Which cells were read, if the bytes are told.
-- Used by the proofs of `Placed`, `Summed`, `loaded_chunk_holds_its_cells`, `read_piece` and `read_pieces`.
use Rattle.std.proofs.Common.{◌≡◌, ℕ, ◌+◌, ◌*◌, ◌<◌, ◌≤◌, List, [], ◌∷◌, ◌++◌, length, take, drop, map, pos, Option, Some, None, refl, sym, ap, ◌∙◌, subst, arith, length-drop, length-append, get_or, append_assoc, append-nil, zero, suc}
use Rattle.std.specs.List.{range_with_len}
use Rattle.std.specs.Int.{cast_signed}
use mir.Syntax.{w32}
use Rattle.std.proofs.Math.Seq.{take-add, drop-append_seam}
use Rattle.std.proofs.lemmas.List.{drop-append-le, take-append-drop, take_at, take_all, drop-drop, length-take-le}
use Rattle.std.proofs.lemmas.List.FromFn.{fill_by_all, get_or-map-range_with_len, length-map-range_with_len, map-range_with_len_more}
use borrow.Rule.Slice.PartMut.{put_mid, post_of}
use Rattle.byteorder.specs.Endian.{little_number}
use Rattle.byteorder.specs.Numbers.{little_from-append}
use Rattle.source_io.specs.Told.{Holds}
use Rattle.cells.specs.declared.cell.Cell.{Cell}
use Rattle.layouts.specs.declared.numbers.LayoutNumbers.{LayoutNumbers}
use Rattle.layouts.specs.Chunks.{chunk_cells, cell_chunk, cell_index}
use Rattle.array_file.specs.Stored.{cell_at, cell_start, chunk_start}
use Rattle.chunk_store.specs.Loaded.{cells_from, HoldsFrom, HoldsChunk}

-- ---- a cell in a part of the bytes

-- the number in four of the first n bytes is the number in the same four of all bytes
number_at-take : (bytes : List ℕ) (n at : ℕ) → at + 4 ≤ n → n ≤ length bytes → little_number 4 (drop at (take n bytes)) ≡ little_number 4 (drop at bytes)
number_at-take bytes n at inside short =
    let start = take n bytes in
    let long = length-take-le n bytes short in
    let whole : drop at bytes ≡ drop at start ++ drop n bytes =
    ap (drop at) (sym (take-append-drop n bytes)) ∙ drop-append-le at start (drop n bytes) (omega (arith, long)) in
    sym (ap (little_number 4) whole ∙ little_from-append 4 (drop at start) (drop n bytes) (omega (arith, long, length-drop at start)))

cell_at-part : (all : List ℕ) (from n at : ℕ) → at + 4 ≤ n → n ≤ length (drop from all) → cell_at (take n (drop from all)) at ≡ cell_at all (from + at)
unfolding cell_at
cell_at-part all from n at inside short =
    let cell : ℕ → Cell = λ x. record { 0 = cast_signed w32 x } in
    ap cell (number_at-take (drop from all) n at inside short ∙ ap (little_number 4) (drop-drop at from all))

-- ---- cells in a part of the bytes

map-range_with_len-same : {X : Type 0} (f g : ℕ → X) (n : ℕ) (d : X) → ((k : ℕ) → k < n → f k ≡ g k) → map f (range_with_len 0 n) ≡ map g (range_with_len 0 n)
map-range_with_len-same f g n d same =
    fill_by_all g (map f (range_with_len 0 n)) n d (length-map-range_with_len f 0 n)
    (λ k below. get_or-map-range_with_len f 0 n k k d below (omega arith) ∙ same k below)

a_cell : Cell
a_cell = record { 0 = pos 0 }

-- the cells in a part of the bytes are those from its offset on
cells_from-part : (all : List ℕ) (at n : ℕ) → 4 * n ≤ length (drop at all) → cells_from (take (4 * n) (drop at all)) 0 n ≡ cells_from all at n
unfolding cells_from
cells_from-part all at n short =
    map-range_with_len-same (λ k. cell_at (take (4 * n) (drop at all)) (0 + 4 * k)) (λ k. cell_at all (at + 4 * k)) n a_cell
    (λ k below. let here : 0 + 4 * k ≡ 4 * k = omega arith in ap (cell_at (take (4 * n) (drop at all))) here ∙ cell_at-part all at (4 * n) (4 * k) (omega arith) short)

pub length-cells_from : (bytes : List ℕ) (at n : ℕ) → length (cells_from bytes at n) ≡ n
unfolding cells_from
length-cells_from bytes at n = length-map-range_with_len (λ k. cell_at bytes (at + 4 * k)) 0 n

-- the cells of a piece that was read whole
pub holds_piece : (told : Option (List ℕ)) (at n m : ℕ) (bytes : List ℕ) (cells : List Cell) → m ≡ 4 * n → Holds told at m bytes → cells ≡ cells_from bytes 0 n → HoldsFrom told at cells
holds_piece None at n m bytes cells is_m held put = tt
holds_piece (Some all) at n m bytes cells is_m held put =
    let long : length cells ≡ n = ap length put ∙ length-cells_from bytes 0 n in
    let part : bytes ≡ take (4 * n) (drop at all) = held.1 ∙ ap (λ k. take k (drop at all)) is_m in
    put ∙ ap (λ b. cells_from b 0 n) part ∙ cells_from-part all at n (omega (arith, held.0)) ∙ ap (cells_from all at) (sym long)

-- ---- pieces one after the other

cells_from-nil : (all : List ℕ) (at : ℕ) → cells_from all at 0 ≡ []
unfolding cells_from
cells_from-nil all at = refl

cells_from-more : (all : List ℕ) (at n : ℕ) → cells_from all at (n + 1) ≡ cells_from all at n ++ cell_at all (at + 4 * n) ∷ []
unfolding cells_from
cells_from-more all at n = map-range_with_len_more (λ k. cell_at all (at + 4 * k)) 0 n n (omega arith)

cells_from-add : (all : List ℕ) (at n m : ℕ) → cells_from all at (n + m) ≡ cells_from all at n ++ cells_from all (at + 4 * n) m
cells_from-add all at n zero =
    let none : n + 0 ≡ n = omega arith in
    ap (cells_from all at) none ∙ sym (append-nil (cells_from all at n)) ∙ ap (λ l. cells_from all at n ++ l) (sym (cells_from-nil all (at + 4 * n)))
cells_from-add all at n (suc m) =
    let first = cells_from all at n in
    let next = cells_from all (at + 4 * n) m in
    let one : n + suc m ≡ n + m + 1 = omega arith in
    let last : suc m ≡ m + 1 = omega arith in
    let same : at + 4 * (n + m) ≡ at + 4 * n + 4 * m = omega arith in
    ap (cells_from all at) one ∙ cells_from-more all at (n + m) ∙ (λ i. cells_from-add all at n m i ++ cell_at all (same i) ∷ [])
    ∙ append_assoc first next (cell_at all (at + 4 * n + 4 * m) ∷ [])
    ∙ ap (λ l. first ++ l) (sym (ap (cells_from all (at + 4 * n)) last ∙ cells_from-more all (at + 4 * n) m))

drop_at_seam : (xs ys : List Cell) (n : ℕ) → length xs ≡ n → drop n (xs ++ ys) ≡ ys
drop_at_seam xs ys n e = subst (λ m. drop m (xs ++ ys) ≡ ys) e (drop-append_seam xs ys)

-- with m cells put in at n, the first n + m are the first n of before and these
take-put_mid_all : (n m k : ℕ) (cells part : List Cell) → n ≤ length cells → length part ≡ m → take (n + m) (put_mid n k cells part) ≡ take n cells ++ part
take-put_mid_all n m k cells part inside is_m =
    let long = length-take-le n cells inside in
    let rest = part ++ post_of n k cells in
    let start : take n (put_mid n k cells part) ≡ take n cells = take_at (take n cells) rest n long in
    let after : drop n (put_mid n k cells part) ≡ rest = drop_at_seam (take n cells) rest n long in
    take-add n m (put_mid n k cells part) ∙ (λ i. start i ++ take m (after i)) ∙ ap (λ l. take n cells ++ l) (take_at part (post_of n k cells) m is_m)

-- no cells
pub holds_none : (told : Option (List ℕ)) (at : ℕ) → HoldsFrom told at []
holds_none None at = tt
holds_none (Some all) at = sym (cells_from-nil all at)

-- a piece after cells that are held already
pub holds_more : (told : Option (List ℕ)) (at n m k : ℕ) (cells part : List Cell) → n ≤ length cells → length part ≡ m
    → HoldsFrom told at (take n cells) → HoldsFrom told (at + 4 * n) part → HoldsFrom told at (take (n + m) (put_mid n k cells part))
holds_more None at n m k cells part inside is_m h more = tt
holds_more (Some all) at n m k cells part inside is_m h more =
    let long = length-take-le n cells inside in
    let both = take-put_mid_all n m k cells part inside is_m in
    let count : length (take (n + m) (put_mid n k cells part)) ≡ n + m = ap length both ∙ omega (arith, length-append (take n cells) part, long, is_m) in
    let first : take n cells ≡ cells_from all at n = h ∙ ap (cells_from all at) long in
    let next : part ≡ cells_from all (at + 4 * n) m = more ∙ ap (cells_from all (at + 4 * n)) is_m in
    both ∙ (λ i. first i ++ next i) ∙ sym (cells_from-add all at n m) ∙ ap (cells_from all at) (sym count)

-- all of the cells
pub holds_all : (told : Option (List ℕ)) (at n : ℕ) (cells : List Cell) → length cells ≤ n → HoldsFrom told at (take n cells) → HoldsFrom told at cells
holds_all told at n cells short h = subst (HoldsFrom told at) (take_all n cells short) h

-- the cells of a chunk
pub holds_chunk : (told : Option (List ℕ)) (l : LayoutNumbers) (n : ℕ) (cells : List Cell) → length cells ≡ chunk_cells l → HoldsFrom told (chunk_start l n) cells → HoldsChunk told l n cells
holds_chunk None l n cells long h = tt
holds_chunk (Some all) l n cells long h = h ∙ ap (cells_from all (chunk_start l n)) long

-- a cell of the array, in the cells of its chunk
pub get_or-cells_from : (all : List ℕ) (at n i : ℕ) (other : Cell) → i < n → get_or (cells_from all at n) i other ≡ cell_at all (at + 4 * i)
unfolding cells_from
get_or-cells_from all at n i other below = get_or-map-range_with_len (λ k. cell_at all (at + 4 * k)) 0 n i i other below (omega arith)

pub held_cell : (all : List ℕ) (l : LayoutNumbers) (k : ℕ) (cells : List Cell) (other : Cell) → HoldsChunk (Some all) l (cell_chunk l k) cells
    → cell_index l k < chunk_cells l → get_or cells (cell_index l k) other ≡ cell_at all (cell_start l k)
held_cell all l k cells other held below =
    ap (λ (xs : List Cell). get_or xs (cell_index l k) other) held
    ∙ get_or-cells_from all (chunk_start l (cell_chunk l k)) (chunk_cells l) (cell_index l k) other below
