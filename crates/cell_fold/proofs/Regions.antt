-- The present cells of a proper region, computed part by part.
-- Used by the proofs of `plane_record`, `planes_record`, `region_record` and `rows_record`.
use Rattle.std.proofs.Common.{◌≡◌, ℕ, zero, suc, ◌+◌, ◌-◌, ◌*◌, ◌/◌, ◌%◌, ◌≤◌, ◌<◌, true, false, ◌&&◌, List, [], ◌∷◌, ◌++◌, length, get_or, take, drop, map, refl, sym, ap, ◌∙◌, arith, filter, filter_map, ℤ, pos, negsuc, ◌≤ℤ◌, ◌<ℤ◌, int_le, int_lt, Option, Some, None, option_and_then, slice_get, nat_abs, length-take, length-take-le, length-drop}
use Rattle.std.specs.List.{range_with_len, flat_map}
use Rattle.std.proofs.lemmas.Int.{ints}
use Rattle.std.proofs.lemmas.Bool.{and_parts, and_from, and_left, and_right}
use Rattle.std.proofs.lemmas.List.{length-map, drop-map, take-map, get_or-take, get_or-drop, drop-drop, take_all}
use Rattle.std.proofs.lemmas.List.Elements.{filter_map-append}
use Rattle.std.proofs.lemmas.Nat.{mod_below, div_below}
use Rattle.std.proofs.lemmas.Option.{slice_get-get_or}
use Rattle.std.proofs.Math.Seq.{take-add}
use Rattle.cells.specs.Array.{is_within, lies_in, present_cells, fits, is_proper}
use Rattle.grids.specs.Coordinates.{coordinates_of}
use Rattle.cells.specs.Cells.{cell_value, array_of}
use Rattle.lists.specs.Numbers.{product}
use Rattle.cells.specs.declared.cell.Cell.{Cell}
use Rattle.cells.specs.declared.side.Side.{Side}
use Rattle.lists.proofs.Members.{IsIn, in_filter_cases, filter_whole}
use Rattle.grids.proofs.Regions.{places, places-parts}
use Rattle.lists.proofs.Filters.{filter_map-flat_map, filter_map-map, filter_map-agree, flat_map-agree}
use Rattle.lists.proofs.Ranges.{numbers_of_part, in_range, filter-range_with_len, items-range_with_len}

-- ---- tests as facts, and back

int_le-true : (x y : ℤ) → int_le x y ≡ true → x ≤ℤ y
int_le-true x y h = grind (arith, ints)

le-int_le : (x y : ℤ) → x ≤ℤ y → int_le x y ≡ true
le-int_le x y h = grind (arith, ints)

int_lt-true : (x y : ℤ) → int_lt x y ≡ true → x <ℤ y
int_lt-true x y h = grind (arith, ints)

lt-int_lt : (x y : ℤ) → x <ℤ y → int_lt x y ≡ true
lt-int_lt x y h = grind (arith, ints)

lt-int_le : (x y : ℤ) → y <ℤ x → int_le x y ≡ false
lt-int_le x y h = grind (arith, ints)

le-int_lt : (x y : ℤ) → y ≤ℤ x → int_lt x y ≡ false
le-int_lt x y h = grind (arith, ints)

-- ---- sides that fit

nat_abs-pos : (z : ℤ) → pos 0 ≤ℤ z → z ≡ pos (nat_abs z)
nat_abs-pos (pos n) h = refl
nat_abs-pos (negsuc n) h = absurd (omega (arith, ints))

-- the places at which a side begins and ends
abbrev pub start : Side → ℕ
start s = nat_abs s.from

abbrev pub stop : Side → ℕ
stop s = nat_abs s.to

-- a side that fits an extent, in places
pub record Fits (n : ℕ) (s : Side) : Type 0 where
  pub from : s.from ≡ pos (start s)
  pub to : s.to ≡ pos (stop s)
  pub some : start s < stop s
  pub within : stop s ≤ n

pub fits-places : (n : ℕ) (s : Side) → fits n s ≡ true → Fits n s
fits-places n s h =
    let a = and_parts (int_le (pos 0) s.from && int_lt s.from s.to) (int_le s.to (pos n)) h in
    let b = and_parts (int_le (pos 0) s.from) (int_lt s.from s.to) a.0 in
    let low = int_le-true (pos 0) s.from b.0 in
    let some = int_lt-true s.from s.to b.1 in
    let high = int_le-true s.to (pos n) a.1 in
    let from = nat_abs-pos s.from low in
    let to = nat_abs-pos s.to (omega (arith, ints, low, some)) in
    record { from = from; to = to; some = omega (arith, ints, some, from, to); within = omega (arith, ints, high, to) }

pub proper-parts : (n : ℕ) (ns : List ℕ) (s : Side) (ss : List Side) → is_proper (n ∷ ns) (s ∷ ss) ≡ true → Fits n s × (is_proper ns ss ≡ true)
proper-parts n ns s ss h = let a = and_parts (fits n s) (is_proper ns ss) h in (fits-places n s a.0, a.1)

-- the places of a side that fits
filter-is_within : (n : ℕ) (s : Side) → Fits n s → filter (is_within s) (range_with_len 0 n) ≡ range_with_len (start s) (stop s - start s)
filter-is_within n s p =
    let from = p.from in
    let to = p.to in
    filter-range_with_len (is_within s) (start s) (stop s) n (omega (arith, p.some)) p.within
    (λ k below. and_left _ _ (lt-int_le s.from (pos k) (omega (arith, ints, from))))
    (λ k low high. and_from _ _ (le-int_le s.from (pos k) (omega (arith, ints, from))) (lt-int_lt (pos k) s.to (omega (arith, ints, to))))
    (λ k above. and_right _ _ (le-int_lt (pos k) s.to (omega (arith, ints, to))))

-- ---- parts of an array

-- the c-th part of p cells each
abbrev pub part : {X : Type 0} → ℕ → ℕ → List X → List X
part p c cells = take p (drop (c * p) cells)

-- the number at a place
abbrev pub number : List Cell → ℕ → Option ℤ
number cells k = option_and_then (λ (x : Option ℤ). x) (slice_get (map cell_value cells) k)

-- a part ends within the cells of all parts
pub room : (c p n : ℕ) → c < n → c * p + p ≤ n * p
room c p n h = grind arith

length-part : {X : Type 0} (p c n : ℕ) (cells : List X) → c < n → n * p ≤ length cells → length (part p c cells) ≡ p
length-part p c n cells below all = length-take-le p (drop (c * p) cells) (omega (arith, length-drop (c * p) cells, room c p n below))

number-part : (p c n j : ℕ) (cells : List Cell) → c < n → n * p ≤ length cells → j < p → number cells (c * p + j) ≡ number (part p c cells) j
number-part p c n j cells below all within =
    let xs = map cell_value cells in
    let whole : length xs ≡ length cells = length-map cells cell_value in
    let inside : c * p + j < length xs = omega (arith, whole, room c p n below) in
    let size : length (map cell_value (part p c cells)) ≡ p = length-map (part p c cells) cell_value ∙ length-part p c n cells below all in
    let same : map cell_value (part p c cells) ≡ part p c xs = sym (ap (take p) (drop-map cell_value (c * p) cells) ∙ take-map cell_value p (drop (c * p) cells)) in
    let here : get_or (map cell_value (part p c cells)) j None ≡ get_or xs (c * p + j) None = ap (λ l. get_or l j None) same ∙ get_or-take p (drop (c * p) xs) j None within ∙ get_or-drop (c * p) xs j None in
    ap (option_and_then (λ (x : Option ℤ). x)) (slice_get-get_or xs (c * p + j) None inside ∙ ap Some (sym here) ∙ sym (slice_get-get_or (map cell_value (part p c cells)) j None (omega arith)))

-- the numbers of a region, by the places of its extents
pub present_cells-places : (rank : ℕ) (ns : List ℕ) (ss : List Side) (cells : List Cell) → length cells ≡ product ns → present_cells (array_of rank ns cells) ss ≡ filter_map (number cells) (places ns (map is_within ss))
present_cells-places rank ns ss cells whole =
    ap (λ m. filter_map (number cells) (filter (λ k. lies_in ss (coordinates_of ns k)) (range_with_len 0 m))) (length-map cells cell_value ∙ whole)

-- the numbers of a region are those of the region's other sides in each part
pub present_cells-parts : (rank rank' n : ℕ) (ns : List ℕ) (s : Side) (ss : List Side) (cells : List Cell) → length cells ≡ n * product ns → Fits n s
    → present_cells (array_of rank (n ∷ ns) cells) (s ∷ ss) ≡ flat_map (λ c. present_cells (array_of rank' ns (part (product ns) c cells)) ss) (range_with_len (start s) (stop s - start s))
present_cells-parts rank rank' n ns s ss cells whole p =
    present_cells-places rank (n ∷ ns) (s ∷ ss) cells whole
    ∙ ap (filter_map (number cells)) (places-parts n ns (is_within s) (map is_within ss) ∙ ap (flat_map (numbers_of_part (product ns) (places ns (map is_within ss)))) (filter-is_within n s p))
    ∙ filter_map-flat_map (number cells) (numbers_of_part (product ns) (places ns (map is_within ss))) (range_with_len (start s) (stop s - start s))
    ∙ flat_map-agree _ _ (range_with_len (start s) (stop s - start s)) each
  where
    each : (c : ℕ) → IsIn c (range_with_len (start s) (stop s - start s)) → filter_map (number cells) (numbers_of_part (product ns) (places ns (map is_within ss)) c) ≡ present_cells (array_of rank' ns (part (product ns) c cells)) ss
    each c m =
        let bounds = in_range (start s) (stop s - start s) c m in
        let below : c < n = omega (arith, p.some, p.within) in
        filter_map-map (number cells) (λ j. c * product ns + j) (places ns (map is_within ss))
        ∙ filter_map-agree (λ j. number cells (c * product ns + j)) (number (part (product ns) c cells)) (places ns (map is_within ss))
        (λ j i. number-part (product ns) c n j cells below (omega (arith, whole)) (omega (arith, (in_range 0 (product ns) j (in_filter_cases (λ k. lies_in ss (coordinates_of ns k)) (range_with_len 0 (product ns)) j i).0).1)))
        ∙ sym (present_cells-places rank' ns ss (part (product ns) c cells) (length-part (product ns) c n cells below (omega (arith, whole))))

-- ---- regions that have every place of the array

-- each side has every place of its extent
abbrev pub HasAll : List ℕ → List Side → Type 0
HasAll [] [] = Unit {0}
HasAll [] (s ∷ ss) = ⊥
HasAll (n ∷ ns) [] = ⊥
HasAll (n ∷ ns) (s ∷ ss) = (s.from ≤ℤ pos 0) × (pos n ≤ℤ s.to) × HasAll ns ss

some_part : (n p k : ℕ) → k < n * p → 0 < p
some_part n zero k h = absurd (omega arith)
some_part n (suc p) k h = omega arith

lies_in-all : (ns : List ℕ) (ss : List Side) → HasAll ns ss → (k : ℕ) → k < product ns → lies_in ss (coordinates_of ns k) ≡ true
lies_in-all [] [] h k below = refl
lies_in-all [] (s ∷ ss) h k below = elim h [ ]
lies_in-all (n ∷ ns) [] h k below = elim h [ ]
lies_in-all (n ∷ ns) (s ∷ ss) h k below =
    let some : 0 < product ns = some_part n (product ns) k below in
    let first : k / product ns < n = div_below k (product ns) n some below in
    let rest : k % product ns < product ns = mod_below k (product ns) some in
    let low = h.0 in
    let high = h.1 in
    and_from _ _ (and_from _ _ (le-int_le s.from (pos (k / product ns)) (omega (arith, ints, low))) (lt-int_lt (pos (k / product ns)) s.to (omega (arith, ints, high, first)))) (lies_in-all ns ss h.2 (k % product ns) rest)

number-all : (cells : List Cell) → filter_map (number cells) (range_with_len 0 (length cells)) ≡ filter_map cell_value cells
number-all cells =
    let xs = map cell_value cells in
    let size : length xs ≡ length cells = length-map cells cell_value in
    items-range_with_len xs 0 (length cells) (omega arith)
    ∙ ap (filter_map (λ (x : Option ℤ). x)) (take_all (length cells) xs (omega arith))
    ∙ filter_map-map (λ (x : Option ℤ). x) cell_value cells

pub present_cells-all : (rank : ℕ) (ns : List ℕ) (ss : List Side) (cells : List Cell) → length cells ≡ product ns → HasAll ns ss → present_cells (array_of rank ns cells) ss ≡ filter_map cell_value cells
present_cells-all rank ns ss cells whole h =
    present_cells-places rank ns ss cells whole
    ∙ ap (filter_map (number cells)) (filter_whole (λ k. lies_in ss (coordinates_of ns k)) (range_with_len 0 (product ns)) (λ k i. let m = in_range 0 (product ns) k i in lies_in-all ns ss h k (omega arith)) ∙ ap (range_with_len 0) (sym whole))
    ∙ number-all cells

-- parts that follow each other are one run of cells
flat_map-part : (p a m : ℕ) (cells : List Cell) → flat_map (λ c. filter_map cell_value (part p c cells)) (range_with_len a m) ≡ filter_map cell_value (take (m * p) (drop (a * p) cells))
flat_map-part p a zero cells = let none : 0 ≡ zero * p = omega arith in ap (λ k. filter_map cell_value (take k (drop (a * p) cells))) none
flat_map-part p a (suc m) cells =
    let size : p + m * p ≡ suc m * p = omega arith in
    let next : (a + 1) * p ≡ a * p + p = omega arith in
    let rest : drop ((a + 1) * p) cells ≡ drop p (drop (a * p) cells) = ap (λ k. drop k cells) next ∙ sym (drop-drop p (a * p) cells) in
    ap (λ l. filter_map cell_value (part p a cells) ++ l) (flat_map-part p (a + 1) m cells ∙ ap (λ l. filter_map cell_value (take (m * p) l)) rest)
    ∙ sym (filter_map-append cell_value (take p (drop (a * p) cells)) (take (m * p) (drop p (drop (a * p) cells))))
    ∙ ap (filter_map cell_value) (sym (take-add p (m * p) (drop (a * p) cells)) ∙ ap (λ k. take k (drop (a * p) cells)) size)

-- if the other sides have every place, the numbers are those of one run of cells
pub present_cells-run : (rank n : ℕ) (ns : List ℕ) (s : Side) (ss : List Side) (cells : List Cell) → length cells ≡ n * product ns → Fits n s → HasAll ns ss
    → present_cells (array_of rank (n ∷ ns) cells) (s ∷ ss) ≡ filter_map cell_value (take ((stop s - start s) * product ns) (drop (start s * product ns) cells))
present_cells-run rank n ns s ss cells whole p h =
    present_cells-parts rank rank n ns s ss cells whole p
    ∙ flat_map-agree _ (λ c. filter_map cell_value (part (product ns) c cells)) (range_with_len (start s) (stop s - start s)) each
    ∙ flat_map-part (product ns) (start s) (stop s - start s) cells
  where
    each : (c : ℕ) → IsIn c (range_with_len (start s) (stop s - start s)) → present_cells (array_of rank ns (part (product ns) c cells)) ss ≡ filter_map cell_value (part (product ns) c cells)
    each c m =
        let bounds = in_range (start s) (stop s - start s) c m in
        present_cells-all rank ns ss (part (product ns) c cells) (length-part (product ns) c n cells (omega (arith, p.some, p.within)) (omega (arith, whole))) h

-- a part, as the code takes it out of all cells
pub part-cut : {X : Type 0} (p w size : ℕ) (cells : List X) → w ≡ size → take ((p * w + w) - p * w) (drop (p * w) cells) ≡ part size p cells
part-cut p w size cells e =
    let width : (p * w + w) - p * w ≡ w = omega arith in
    ap (λ k. take k (drop (p * w) cells)) width ∙ ap (λ k. part k p cells) e

pub length-part_cut-le : {X : Type 0} (p w size : ℕ) (cells : List X) → w ≡ size → length (take ((p * w + w) - p * w) (drop (p * w) cells)) ≤ size
length-part_cut-le {X = X} p w size cells e =
    let width : (p * w + w) - p * w ≡ w = omega arith in
    omega (arith, width, length-take {A = X} ((p * w + w) - p * w) (drop (p * w) cells))

-- the numbers of a line, as the code takes them out of all cells
pub present_cells-line : (n c m : ℕ) (s : Side) (cells : List Cell) → fits n s ≡ true → m ≡ n → c * n + n ≤ length cells
    → filter_map cell_value (take ((stop s - start s) * 1) (drop (start s * 1) (take m (drop (c * n) cells)))) ≡ present_cells (array_of 1 (n ∷ []) (part n c cells)) (s ∷ [])
present_cells-line n c m s cells h whole within =
    let one : n ≡ n * 1 = omega arith in
    ap (λ k. filter_map cell_value (take ((stop s - start s) * 1) (drop (start s * 1) (take k (drop (c * n) cells))))) whole
    ∙ sym (present_cells-run 1 n [] s [] (part n c cells) (length-take-le n (drop (c * n) cells) (omega (arith, length-drop (c * n) cells)) ∙ one) (fits-places n s h) tt)

-- ---- the same of lists that are known by their items

proper-at : (extents : List ℕ) (sides : List Side) (n : ℕ) (ns : List ℕ) (s : Side) (ss : List Side) → extents ≡ n ∷ ns → sides ≡ s ∷ ss → is_proper extents sides ≡ true → Fits n s × (is_proper ns ss ≡ true)
proper-at extents sides n ns s ss e f proper = proper-parts n ns s ss (sym (λ i. is_proper (e i) (f i)) ∙ proper)

pub region-run : (rank size : ℕ) (extents : List ℕ) (sides : List Side) (n : ℕ) (ns : List ℕ) (s : Side) (ss : List Side) (cells : List Cell) → extents ≡ n ∷ ns → sides ≡ s ∷ ss → size ≡ product ns
    → length cells ≡ product extents → is_proper extents sides ≡ true → HasAll ns ss → filter_map cell_value (take ((stop s - start s) * size) (drop (start s * size) cells)) ≡ present_cells (array_of rank extents cells) sides
region-run rank size extents sides n ns s ss cells e f whole_part whole proper h =
    ap (λ k. filter_map cell_value (take ((stop s - start s) * k) (drop (start s * k) cells))) whole_part
    ∙ sym (present_cells-run rank n ns s ss cells (whole ∙ ap product e) (proper-at extents sides n ns s ss e f proper).0 h)
    ∙ sym (λ i. present_cells (array_of rank (e i) cells) (f i))

pub region-parts : (rank rank' size : ℕ) (extents : List ℕ) (sides : List Side) (n : ℕ) (ns : List ℕ) (s : Side) (ss : List Side) (cells : List Cell) → extents ≡ n ∷ ns → sides ≡ s ∷ ss → size ≡ product ns
    → length cells ≡ product extents → is_proper extents sides ≡ true → flat_map (λ c. present_cells (array_of rank' ns (part size c cells)) ss) (range_with_len (start s) (stop s - start s)) ≡ present_cells (array_of rank extents cells) sides
region-parts rank rank' size extents sides n ns s ss cells e f whole_part whole proper =
    ap (λ k. flat_map (λ c. present_cells (array_of rank' ns (part k c cells)) ss) (range_with_len (start s) (stop s - start s))) whole_part
    ∙ sym (present_cells-parts rank rank' n ns s ss cells (whole ∙ ap product e) (proper-at extents sides n ns s ss e f proper).0)
    ∙ sym (λ i. present_cells (array_of rank (e i) cells) (f i))

-- the parts that the first side has are within the cells
pub region-within : (extents : List ℕ) (sides : List Side) (n : ℕ) (ns : List ℕ) (s : Side) (ss : List Side) (cells : List Cell) → extents ≡ n ∷ ns → sides ≡ s ∷ ss
    → length cells ≡ product extents → is_proper extents sides ≡ true → stop s * product ns ≤ length cells
region-within extents sides n ns s ss cells e f whole proper =
    let p = proper-at extents sides n ns s ss e f proper in
    let size : length cells ≡ n * product ns = whole ∙ ap product e in
    let all : stop s * product ns ≤ n * product ns = grind (arith, p.0.within) in
    omega arith

pub unsigned_abs-le : (x y : ℤ) → pos 0 ≤ℤ x → x ≤ℤ y → nat_abs x ≤ nat_abs y
unsigned_abs-le (pos m) (pos n) h k = omega (arith, ints)
unsigned_abs-le (pos m) (negsuc n) h k = absurd (omega (arith, ints))
unsigned_abs-le (negsuc m) y h k = absurd (omega (arith, ints))
