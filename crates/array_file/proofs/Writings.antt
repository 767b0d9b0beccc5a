-- The bytes of cells and of chunks, one after the other. Used by the functions that write them.
use Rattle.std.proofs.Common.{◌≡◌, ℕ, ◌+◌, ◌-◌, ◌*◌, ◌<◌, List, [], ◌∷◌, ◌++◌, length, take, drop, get_or, Option, Result, Ok, Err, subst, refl, sym, ap, ◌∙◌, arith, append_assoc, append-nil}
use Rattle.std.specs.List.{flat_map, range_with_len}
use Rattle.std.proofs.Math.Seq.{take-add, take-append_seam, drop-append_seam}
use Rattle.std.proofs.lemmas.List.{drop-drop, length-take-le, take-append-drop, take_more}
use Rattle.std.proofs.lemmas.Grind.{flat_map-append}
use borrow.Rule.Slice.PartMut.{put_mid, mid_of, post_of}
use Rattle.lists.specs.Appending.{appended, AppendsPrefix}
use Rattle.source_io.specs.Written.{Writes}
use Rattle.lists.proofs.Appending.{appended-appended, prefix_after, prefix_within}
use Rattle.layouts.specs.Chunks.{chunk_count}
use Rattle.layouts.specs.declared.numbers.LayoutNumbers.{LayoutNumbers}
use Rattle.chunk_copies.specs.Placing.{chunk_of_cells}
use Rattle.cells.specs.declared.cell.Cell.{Cell}
use Rattle.lists.proofs.Ranges.{range_with_len-add}
use Rattle.array_file.specs.Header.{header_of}
use Rattle.array_file.specs.Written.{bytes_of_cell, bytes_of_cells, bytes_of_chunks, array_bytes}

-- ---- cells

pub bytes_of_cells-nil : bytes_of_cells [] ≡ []
unfolding bytes_of_cells
bytes_of_cells-nil = refl

pub bytes_of_cells-append : (xs ys : List Cell) → bytes_of_cells (xs ++ ys) ≡ bytes_of_cells xs ++ bytes_of_cells ys
unfolding bytes_of_cells
bytes_of_cells-append xs ys = flat_map-append bytes_of_cell xs ys

-- each cell has four bytes
pub length-bytes_of_cells : (cells : List Cell) → length (bytes_of_cells cells) ≡ 4 * length cells
unfolding bytes_of_cells
length-bytes_of_cells [] = refl
length-bytes_of_cells (c ∷ cs) = let e = length-bytes_of_cells cs in omega (arith, e)

pub bytes_of_cells-more : (cells : List Cell) (k : ℕ) (d : Cell) → k < length cells → bytes_of_cells (take (k + 1) cells) ≡ bytes_of_cells (take k cells) ++ bytes_of_cell (get_or cells k d)
unfolding bytes_of_cells
bytes_of_cells-more cells k d below =
    ap (flat_map bytes_of_cell) (take_more cells k d below) ∙ flat_map-append bytes_of_cell (take k cells) (get_or cells k d ∷ [])
    ∙ ap (λ l. flat_map bytes_of_cell (take k cells) ++ l) (append-nil (bytes_of_cell (get_or cells k d)))

-- ---- bytes that are put in place of others

-- before the first cell
pub bytes_put_none : (cells : List Cell) (old : List ℕ) → old ≡ bytes_of_cells (take 0 cells) ++ drop (4 * 0) old
unfolding bytes_of_cells
bytes_put_none cells old = refl

-- one more
pub bytes_put : (cells : List Cell) (old bytes part : List ℕ) (k n : ℕ) (d : Cell) → length old ≡ 4 * length cells → k < length cells → n ≡ 4
    → bytes ≡ bytes_of_cells (take k cells) ++ drop (4 * k) old → part ≡ bytes_of_cell (get_or cells k d) ++ drop 4 (mid_of (4 * k) n bytes)
    → put_mid (4 * k) n bytes part ≡ bytes_of_cells (take (k + 1) cells) ++ drop (4 * (k + 1)) old
bytes_put cells old bytes part k n d long below four before wrote =
    let done = bytes_of_cells (take k cells) in
    let rest = drop (4 * k) old in
    let cell = bytes_of_cell (get_or cells k d) in
    let size : length done ≡ 4 * k = length-bytes_of_cells (take k cells) ∙ ap (λ m. 4 * m) (length-take-le k cells (omega arith)) in
    let prefix : take (4 * k) bytes ≡ done = (λ i. take (sym size i) (before i)) ∙ take-append_seam done rest in
    let back : drop (4 * k) bytes ≡ rest = (λ i. drop (sym size i) (before i)) ∙ drop-append_seam done rest in
    let next : 4 * k + 4 ≡ 4 * (k + 1) = omega arith in
    let none : drop 4 (mid_of (4 * k) n bytes) ≡ [] = ap (λ (m : ℕ). drop 4 (take m (drop (4 * k) bytes))) four ∙ nothing (drop (4 * k) bytes) in
    let end : post_of (4 * k) n bytes ≡ drop (4 * (k + 1)) old =
    (λ i. drop (four i) (back i)) ∙ drop-drop 4 (4 * k) old ∙ ap (λ m. drop m old) next in
    let written : part ≡ cell = wrote ∙ ap (λ l. cell ++ l) none ∙ append-nil cell in
    (λ i. prefix i ++ (written i ++ end i)) ∙ sym (append_assoc done cell (drop (4 * (k + 1)) old))
    ∙ ap (λ l. l ++ drop (4 * (k + 1)) old) (sym (bytes_of_cells-more cells k d below))
  where
    nothing : (xs : List ℕ) → drop 4 (take 4 xs) ≡ []
    nothing [] = refl
    nothing (a ∷ []) = refl
    nothing (a ∷ b ∷ []) = refl
    nothing (a ∷ b ∷ c ∷ []) = refl
    nothing (a ∷ b ∷ c ∷ d ∷ xs) = refl

-- ---- cells that are written in parts

-- m cells more of those of which n were written
pub cells_more : (old mid new : Option (List ℕ)) (cells : List Cell) (n m k : ℕ) → k ≡ m → mid ≡ appended old (bytes_of_cells (take n cells))
    → new ≡ appended mid (bytes_of_cells (take k (drop n cells))) → new ≡ appended old (bytes_of_cells (take (n + m) cells))
cells_more old mid new cells n m k size before wrote =
    let piece = take k (drop n cells) in
    let both : bytes_of_cells (take n cells) ++ bytes_of_cells piece ≡ bytes_of_cells (take (n + m) cells) =
    sym (bytes_of_cells-append (take n cells) piece) ∙ (λ i. bytes_of_cells (take n cells ++ take (size i) (drop n cells))) ∙ ap bytes_of_cells (sym (take-add n m cells)) in
    wrote ∙ ap (λ told. appended told (bytes_of_cells piece)) before ∙ appended-appended old (bytes_of_cells (take n cells)) (bytes_of_cells piece) ∙ ap (appended old) both

-- a prefix of the next cells is a prefix of all
pub cells_prefix : (old mid new : Option (List ℕ)) (cells : List Cell) (n k : ℕ) → mid ≡ appended old (bytes_of_cells (take n cells))
    → AppendsPrefix mid (bytes_of_cells (take k (drop n cells))) new → AppendsPrefix old (bytes_of_cells cells) new
cells_prefix old mid new cells n k before prefix =
    let done = take n cells in
    let rest = drop n cells in
    let all : bytes_of_cells done ++ (bytes_of_cells (take k rest) ++ bytes_of_cells (drop k rest)) ≡ bytes_of_cells cells =
    ap (λ l. bytes_of_cells done ++ l) (sym (bytes_of_cells-append (take k rest) (drop k rest)) ∙ ap bytes_of_cells (take-append-drop k rest))
    ∙ sym (bytes_of_cells-append done rest) ∙ ap bytes_of_cells (take-append-drop n cells) in
    subst (λ l. AppendsPrefix old l new) all
    (prefix_after old mid new (bytes_of_cells done) (bytes_of_cells (take k rest) ++ bytes_of_cells (drop k rest)) before
    (prefix_within mid new (bytes_of_cells (take k rest)) (bytes_of_cells (drop k rest)) prefix))

-- ---- chunks

pub bytes_of_chunks-nil : (l : LayoutNumbers) (cells : List Cell) → bytes_of_chunks l cells 0 ≡ []
unfolding bytes_of_chunks
bytes_of_chunks-nil l cells = refl

-- the bytes of n chunks, and then those of m others
pub bytes_of_chunks-add : (l : LayoutNumbers) (cells : List Cell) (n m : ℕ)
    → bytes_of_chunks l cells (n + m) ≡ bytes_of_chunks l cells n ++ flat_map (λ k. bytes_of_cells (chunk_of_cells l cells k)) (range_with_len n m)
unfolding bytes_of_chunks
bytes_of_chunks-add l cells n m =
    let f : ℕ → List ℕ = λ k. bytes_of_cells (chunk_of_cells l cells k) in
    let here : 0 + n ≡ n = omega arith in
    ap (flat_map f) (range_with_len-add 0 n m ∙ ap (λ from. range_with_len 0 n ++ range_with_len from m) here) ∙ flat_map-append f (range_with_len 0 n) (range_with_len n m)

pub bytes_of_chunks-more : (l : LayoutNumbers) (cells : List Cell) (n : ℕ) → bytes_of_chunks l cells (n + 1) ≡ bytes_of_chunks l cells n ++ bytes_of_cells (chunk_of_cells l cells n)
bytes_of_chunks-more l cells n =
    bytes_of_chunks-add l cells n 1 ∙ ap (λ b. bytes_of_chunks l cells n ++ b) (append-nil (bytes_of_cells (chunk_of_cells l cells n)))

-- one more chunk, after n that were written
pub chunks_more : (old mid new : Option (List ℕ)) (l : LayoutNumbers) (cells chunk : List Cell) (n : ℕ) → chunk ≡ chunk_of_cells l cells n
    → mid ≡ appended old (bytes_of_chunks l cells n) → new ≡ appended mid (bytes_of_cells chunk) → new ≡ appended old (bytes_of_chunks l cells (n + 1))
chunks_more old mid new l cells chunk n is before wrote =
    wrote ∙ (λ i. appended (before i) (bytes_of_cells (is i))) ∙ appended-appended old (bytes_of_chunks l cells n) (bytes_of_cells (chunk_of_cells l cells n))
    ∙ ap (appended old) (sym (bytes_of_chunks-more l cells n))

-- all of them
pub chunks_all : (old new : Option (List ℕ)) (l : LayoutNumbers) (cells : List Cell) (n count : ℕ) → n ≡ count → new ≡ appended old (bytes_of_chunks l cells n)
    → new ≡ appended old (bytes_of_chunks l cells count)
chunks_all old new l cells n count all wrote = wrote ∙ ap (λ m. appended old (bytes_of_chunks l cells m)) all

-- the bytes before chunk n, those of chunk n, and those after it
pub bytes_of_chunks-around : (l : LayoutNumbers) (cells : List Cell) (n count : ℕ) → n < count
    → (rest : List ℕ) × (bytes_of_chunks l cells n ++ (bytes_of_cells (chunk_of_cells l cells n) ++ rest) ≡ bytes_of_chunks l cells count)
bytes_of_chunks-around l cells n count below =
    let chunk = bytes_of_cells (chunk_of_cells l cells n) in
    let more = count - (n + 1) in
    let rest = flat_map (λ k. bytes_of_cells (chunk_of_cells l cells k)) (range_with_len (n + 1) more) in
    let size : n + 1 + more ≡ count = omega arith in
    let all : bytes_of_chunks l cells n ++ (chunk ++ rest) ≡ bytes_of_chunks l cells count =
    sym (append_assoc (bytes_of_chunks l cells n) chunk rest) ∙ ap (λ b. b ++ rest) (sym (bytes_of_chunks-more l cells n))
    ∙ sym (bytes_of_chunks-add l cells (n + 1) more) ∙ ap (bytes_of_chunks l cells) size in
    (rest, all)

-- a prefix of the next chunk is a prefix of all
pub chunks_prefix : (old mid new : Option (List ℕ)) (l : LayoutNumbers) (cells chunk : List Cell) (n count : ℕ) → chunk ≡ chunk_of_cells l cells n → n < count
    → mid ≡ appended old (bytes_of_chunks l cells n) → AppendsPrefix mid (bytes_of_cells chunk) new → AppendsPrefix old (bytes_of_chunks l cells count) new
chunks_prefix old mid new l cells chunk n count is below before prefix =
    let around = bytes_of_chunks-around l cells n count below in
    let here = bytes_of_cells (chunk_of_cells l cells n) in
    subst (λ b. AppendsPrefix old b new) around.1
    (prefix_after old mid new (bytes_of_chunks l cells n) (here ++ around.0) before
    (prefix_within mid new here around.0 (subst (λ cs. AppendsPrefix mid (bytes_of_cells cs) new) is prefix)))

-- ---- a whole file

-- the chunks after the header
pub array_after_header : {T E : Type 0} (r : Result T E) (old mid new : Option (List ℕ)) (header : List ℕ) (l : LayoutNumbers) (cells : List Cell) → header ≡ header_of l
    → mid ≡ appended old header → Writes r (bytes_of_chunks l cells (chunk_count l)) mid new → Writes r (array_bytes l cells) old new
unfolding array_bytes
array_after_header (Ok x) old mid new header l cells is before wrote =
    let chunks = bytes_of_chunks l cells (chunk_count l) in
    wrote ∙ (λ i. appended (before i) chunks) ∙ appended-appended old header chunks ∙ ap (λ h. appended old (h ++ chunks)) is
array_after_header (Err e) old mid new header l cells is before wrote =
    prefix_after old mid new (header_of l) (bytes_of_chunks l cells (chunk_count l)) (before ∙ ap (appended old) is) wrote

-- a prefix of the header
pub array_prefix : (old new : Option (List ℕ)) (header : List ℕ) (l : LayoutNumbers) (cells : List Cell) → header ≡ header_of l → AppendsPrefix old header new → AppendsPrefix old (array_bytes l cells) new
unfolding array_bytes
array_prefix old new header l cells is prefix =
    prefix_within old new (header_of l) (bytes_of_chunks l cells (chunk_count l)) (subst (λ h. AppendsPrefix old h new) is prefix)
