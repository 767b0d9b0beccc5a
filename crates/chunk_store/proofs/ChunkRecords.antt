-- The numbers of a chunk in a rectangle are the present cells of a region of the chunk, as of an array of its own.
-- Used by the proofs of `chunk_record`, `part_record` and `shared_record`.
use Rattle.std.proofs.Common.{◌≡◌, ◌↔◌, IsTrue, ℕ, zero, suc, ◌+◌, ◌-◌, ◌*◌, ◌≤◌, ◌<◌, min, max, nat_le, nat_lt, ◌==◌, Bool, true, false, ◌&&◌, inl, inr, List, [], ◌∷◌, length, get_or, map, filter, filter_map, All, ℤ, pos, Option, None, option_and_then, slice_get, refl, sym, ap, ◌∙◌, subst, arith, eq-eqb, ne_eqb}
use Rattle.std.specs.List.{range_with_len, flat_map}
use Rattle.std.proofs.lemmas.Bool.{and_parts, and_from, and_left, and_right, lt-ltb, le-ltb, lt-leb, le-leb, eqb-true, cases_Bool}
use Rattle.std.proofs.lemmas.List.{length-map, get_or-map}
use Rattle.std.proofs.lemmas.List.Elements.{All-nil, All-cons, All-head, All-tail}
use Rattle.std.proofs.lemmas.Nat.{div-mul-add, mod-mul-add}
use Rattle.std.proofs.lemmas.Option.{slice_get-get_or}
use Rattle.std.proofs.lemmas.Simd.{map-map}
use Rattle.lists.specs.Numbers.{product}
use Rattle.lists.proofs.Filters.{filter-and, filter-filter, filter-agree, filter_map-map, filter_map-agree, flat_map-agree, map-agree, map-flat_map, length-filter_map-le}
use Rattle.lists.proofs.Members.{IsIn, in_filter_cases, filter_whole, filter_none}
use Rattle.lists.proofs.Short.{three_items}
use Rattle.lists.proofs.Ranges.{in_range, filter-range_with_len, flat_map-from, numbers_of_part}
use Rattle.grids.specs.Coordinates.{coordinates_of, index_of, pass_each}
use Rattle.grids.specs.Ends.{is_between_ends}
use Rattle.grids.specs.Tiles.{tile_from, tile_to}
use Rattle.grids.proofs.Coordinates.{in_bounds-coordinates_of}
use Rattle.grids.proofs.Ends.{lengths, latest, earliest, product-some, product-first, product-second, some_place}
use Rattle.grids.proofs.Meeting.{length-tile_ends}
use Rattle.grids.proofs.Regions.{places, places-parts}
use Rattle.grids.proofs.TileIndices.{index_in_tile-below, differences, differences-firsts, tile_from-tile_of}
use Rattle.grids.proofs.Tilings.{tile_of-holds, tile_of-tile_rect}
use Rattle.cells.specs.Array.{Array, is_within, lies_in, number_at, present_cells, is_proper}
use Rattle.cells.specs.Cells.{cell_value, array_of, empty_cell}
use Rattle.cells.specs.Records.{record_of}
use Rattle.cells.specs.Rects.{rect_contains, area_of, meet_of, sides_of, HasDimensions, LiesInside}
use Rattle.cells.specs.declared.cell.Cell.{Cell}
use Rattle.cells.specs.declared.record.Record.{Record}
use Rattle.cells.specs.declared.rect.Rect.{Rect}
use Rattle.cells.specs.declared.side.Side.{Side}
use Rattle.layouts.specs.Chunks.{tile_rect, chunk_cells, chunk_count, chunk_rect, cell_chunk, cell_index}
use Rattle.layouts.specs.Cuts.{cut_extents, cut_lengths, cut_froms, cut_tos, IsCut, AreCuts}
use Rattle.layouts.specs.Meeting.{shared_numbers, IsArrayOf}
use Rattle.layouts.specs.Rules.{IsLayout}
use Rattle.layouts.specs.declared.cut.Cut.{Cut}
use Rattle.layouts.specs.declared.numbers.LayoutNumbers.{LayoutNumbers}
use Rattle.chunk_store.specs.FirstChunks.{places_of_chunk, chunk_numbers, shared_places, rect_numbers, IsChunkOf}

-- ---- a part of a chunk

-- in one dimension: the extent of the array, the length and the first coordinate of the chunk, and the ends of the part
pub record Part : Type 0 where
  pub extent : ℕ
  pub length : ℕ
  pub start : ℕ
  pub from : ℕ
  pub to : ℕ

-- it has a cell, and all its cells lie in the array and in the chunk
pub record IsPart (p : Part) : Type 0 where
  pub after : p.start ≤ p.from
  pub some : p.from < p.to
  pub within : p.to ≤ p.extent
  pub short : p.to ≤ p.start + p.length

-- the parts between two ends of a chunk with these cuts
abbrev pub parts_of : List Cut → List ℕ → List ℕ → List Part
parts_of [] fs ts = []
parts_of (c ∷ cs) [] ts = []
parts_of (c ∷ cs) (f ∷ fs) [] = []
parts_of (c ∷ cs) (f ∷ fs) (t ∷ ts) = record { extent = c.extent; length = c.length; start = c.from; from = f; to = t } ∷ parts_of cs fs ts

abbrev pub part_extents : List Part → List ℕ
part_extents ps = map (λ p. p.extent) ps

abbrev pub part_lengths : List Part → List ℕ
part_lengths ps = map (λ p. p.length) ps

abbrev pub part_starts : List Part → List ℕ
part_starts ps = map (λ p. p.start) ps

abbrev pub part_froms : List Part → List ℕ
part_froms ps = map (λ p. p.from) ps

abbrev pub part_tos : List Part → List ℕ
part_tos ps = map (λ p. p.to) ps

-- these are the parts of chunk n of a layout that lie in a rectangle
pub record AreParts (l : LayoutNumbers) (n : ℕ) (r : Rect) (ps : List Part) : Type 0 where
  pub extents : part_extents ps ≡ l.extents
  pub lengths : part_lengths ps ≡ l.chunk
  pub starts : part_starts ps ≡ tile_from l.extents l.chunk n
  pub from : part_froms ps ≡ r.from
  pub to : part_tos ps ≡ r.to
  pub each : All IsPart ps

-- the cells of one dimension that lie in the part: by their coordinates in the array, and by those in the chunk
abbrev in_array : Part → Side
in_array p = record { from = pos p.from; to = pos p.to }

abbrev pub in_chunk : Part → Side
in_chunk p = record { from = pos (p.from - p.start); to = pos (p.to - p.start) }

-- the tests of these coordinates
abbrev array_tests : List Part → List (ℕ → Bool)
array_tests ps = map is_within (map in_array ps)

abbrev chunk_tests : List Part → List (ℕ → Bool)
chunk_tests ps = map is_within (map in_chunk ps)

-- ---- one dimension

before_side : (f t k : ℕ) → k < f → (nat_le f k && nat_lt k t) ≡ false
before_side f t k h = and_left (nat_le f k) (nat_lt k t) (lt-leb f k h)

after_side : (f t k : ℕ) → t ≤ k → (nat_le f k && nat_lt k t) ≡ false
after_side f t k h = and_right (nat_le f k) (nat_lt k t) (le-ltb k t h)

side-places : (f t n : ℕ) → f ≤ t → t ≤ n → filter (is_within (record { from = pos f; to = pos t })) (range_with_len 0 n) ≡ range_with_len f (t - f)
side-places f t n ordered within =
    filter-range_with_len (is_within (record { from = pos f; to = pos t })) f t n ordered within (before_side f t)
    (λ k low high. and_from (nat_le f k) (nat_lt k t) (le-leb f k low) (lt-ltb k t high)) (after_side f t)

-- ---- all dimensions

-- the index in the chunk of the k-th cell of the array
abbrev own_index : List Part → ℕ → ℕ
own_index cs k = index_of (part_lengths cs) (differences (coordinates_of (part_extents cs) k) (part_starts cs))

-- one part of those indices
own_index-part : (c : Part) (cs : List Part) (q j : ℕ) → j < product (part_extents cs) → own_index (c ∷ cs) (q * product (part_extents cs) + j) ≡ (q - c.start) * product (part_lengths cs) + own_index cs j
own_index-part c cs q j below =
    let first = div-mul-add q (product (part_extents cs)) j below in
    let rest = mod-mul-add q (product (part_extents cs)) j below in
    (λ i. (first i - c.start) * product (part_lengths cs) + index_of (part_lengths cs) (differences (coordinates_of (part_extents cs) (rest i)) (part_starts cs)))

part-cut : (c : Part) (cs : List Part) (q : ℕ) → map (own_index cs) (places (part_extents cs) (array_tests cs)) ≡ places (part_lengths cs) (chunk_tests cs)
    → map (own_index (c ∷ cs)) (numbers_of_part (product (part_extents cs)) (places (part_extents cs) (array_tests cs)) q) ≡ numbers_of_part (product (part_lengths cs)) (places (part_lengths cs) (chunk_tests cs)) (q - c.start)
part-cut c cs q same =
    let inner = places (part_extents cs) (array_tests cs) in
    map-map (own_index (c ∷ cs)) (λ j. q * product (part_extents cs) + j) inner
    ∙ map-agree (λ j. own_index (c ∷ cs) (q * product (part_extents cs) + j)) (λ j. (q - c.start) * product (part_lengths cs) + own_index cs j) inner
    (λ j i. own_index-part c cs q j (omega (arith, (in_range 0 (product (part_extents cs)) j (in_filter_cases (λ k. pass_each (array_tests cs) (coordinates_of (part_extents cs) k)) (range_with_len 0 (product (part_extents cs))) j i).0).1)))
    ∙ sym (map-map (λ p. (q - c.start) * product (part_lengths cs) + p) (own_index cs) inner)
    ∙ ap (map (λ p. (q - c.start) * product (part_lengths cs) + p)) same

-- the cells of the array in a chunk are, one by one, the cells of the chunk's region
places-cut : (cs : List Part) → All IsPart cs → map (own_index cs) (places (part_extents cs) (array_tests cs)) ≡ places (part_lengths cs) (chunk_tests cs)
places-cut [] h = refl
places-cut (c ∷ cs) h =
    let here = All-head IsPart c cs h in
    let some = here.some in
    let within = here.within in
    let short = here.short in
    let after = here.after in
    let s = c.start in
    let f = c.from in
    let t = c.to in
    let inner = places (part_extents cs) (array_tests cs) in
    let own = own_index (c ∷ cs) in
    let parts = numbers_of_part (product (part_lengths cs)) (places (part_lengths cs) (chunk_tests cs)) in
    let begin : f ≡ s + (f - s) = omega (arith, after) in
    let size : (t - s) - (f - s) ≡ t - f = omega (arith, after, some) in
    ap (map own) (places-parts c.extent (part_extents cs) (is_within (in_array c)) (array_tests cs) ∙ ap (flat_map (numbers_of_part (product (part_extents cs)) inner)) (side-places f t c.extent (omega (arith, some)) within))
    ∙ map-flat_map own (numbers_of_part (product (part_extents cs)) inner) (range_with_len f (t - f))
    ∙ flat_map-agree (λ q. map own (numbers_of_part (product (part_extents cs)) inner q)) (λ q. parts (q - s)) (range_with_len f (t - f)) (λ q _. part-cut c cs q (places-cut cs (All-tail IsPart c cs h)))
    ∙ ap (λ a. flat_map (λ q. parts (q - s)) (range_with_len a (t - f))) begin
    ∙ flat_map-from parts s (f - s) (t - f)
    ∙ ap (flat_map parts) (sym (side-places (f - s) (t - s) c.length (omega (arith, after, some)) (omega (arith, short)) ∙ ap (range_with_len (f - s)) size))
    ∙ sym (places-parts c.length (part_lengths cs) (is_within (in_chunk c)) (chunk_tests cs))

-- what lies in the sides of the array lies between the ends
lies_in-ends : (cs : List Part) (at : List ℕ) → lies_in (map in_array cs) at ≡ is_between_ends (part_froms cs) (part_tos cs) at
lies_in-ends [] [] = refl
lies_in-ends [] (x ∷ at) = refl
lies_in-ends (c ∷ cs) [] = refl
lies_in-ends (c ∷ cs) (x ∷ at) = ap (λ b. (nat_le c.from x && nat_lt x c.to) && b) (lies_in-ends cs at)

-- the part has a cell, so its region of the chunk has a cell
proper : (cs : List Part) → All IsPart cs → is_proper (part_lengths cs) (map in_chunk cs) ≡ true
proper [] h = refl
proper (c ∷ cs) h =
    let here = All-head IsPart c cs h in
    let after = here.after in
    let some = here.some in
    let short = here.short in
    and_from _ _
    (and_from _ _ (and_from _ _ (le-leb 0 (c.from - c.start) (omega arith)) (lt-ltb (c.from - c.start) (c.to - c.start) (omega (arith, after, some))))
    (le-leb (c.to - c.start) c.length (omega (arith, after, some, short))))
    (proper cs (All-tail IsPart c cs h))

pub region-proper : (l : LayoutNumbers) (n : ℕ) (r : Rect) (ps : List Part) (ms : List ℕ) → AreParts l n r ps → ms ≡ l.chunk → is_proper ms (map in_chunk ps) ≡ true
region-proper l n r ps ms parts m_is = (λ i. is_proper ((m_is ∙ sym parts.lengths) i) (map in_chunk ps)) ∙ proper ps parts.each

-- ---- the parts between two ends

parts_extents : (cs : List Cut) (fs ts : List ℕ) → length fs ≡ length cs → length ts ≡ length cs → part_extents (parts_of cs fs ts) ≡ cut_extents cs
parts_extents [] fs ts a b = refl
parts_extents (c ∷ cs) [] ts a b = absurd (omega arith)
parts_extents (c ∷ cs) (f ∷ fs) [] a b = absurd (omega arith)
parts_extents (c ∷ cs) (f ∷ fs) (t ∷ ts) a b = ap (λ l. c.extent ∷ l) (parts_extents cs fs ts (omega arith) (omega arith))

parts_lengths : (cs : List Cut) (fs ts : List ℕ) → length fs ≡ length cs → length ts ≡ length cs → part_lengths (parts_of cs fs ts) ≡ cut_lengths cs
parts_lengths [] fs ts a b = refl
parts_lengths (c ∷ cs) [] ts a b = absurd (omega arith)
parts_lengths (c ∷ cs) (f ∷ fs) [] a b = absurd (omega arith)
parts_lengths (c ∷ cs) (f ∷ fs) (t ∷ ts) a b = ap (λ l. c.length ∷ l) (parts_lengths cs fs ts (omega arith) (omega arith))

parts_starts : (cs : List Cut) (fs ts : List ℕ) → length fs ≡ length cs → length ts ≡ length cs → part_starts (parts_of cs fs ts) ≡ cut_froms cs
parts_starts [] fs ts a b = refl
parts_starts (c ∷ cs) [] ts a b = absurd (omega arith)
parts_starts (c ∷ cs) (f ∷ fs) [] a b = absurd (omega arith)
parts_starts (c ∷ cs) (f ∷ fs) (t ∷ ts) a b = ap (λ l. c.from ∷ l) (parts_starts cs fs ts (omega arith) (omega arith))

parts_froms : (cs : List Cut) (fs ts : List ℕ) → length fs ≡ length cs → length ts ≡ length cs → part_froms (parts_of cs fs ts) ≡ fs
parts_froms [] [] ts a b = refl
parts_froms [] (f ∷ fs) ts a b = absurd (omega arith)
parts_froms (c ∷ cs) [] ts a b = absurd (omega arith)
parts_froms (c ∷ cs) (f ∷ fs) [] a b = absurd (omega arith)
parts_froms (c ∷ cs) (f ∷ fs) (t ∷ ts) a b = ap (λ l. f ∷ l) (parts_froms cs fs ts (omega arith) (omega arith))

parts_tos : (cs : List Cut) (fs ts : List ℕ) → length fs ≡ length cs → length ts ≡ length cs → part_tos (parts_of cs fs ts) ≡ ts
parts_tos [] fs [] a b = refl
parts_tos [] fs (t ∷ ts) a b = absurd (omega arith)
parts_tos (c ∷ cs) [] ts a b = absurd (omega arith)
parts_tos (c ∷ cs) (f ∷ fs) [] a b = absurd (omega arith)
parts_tos (c ∷ cs) (f ∷ fs) (t ∷ ts) a b = ap (λ l. t ∷ l) (parts_tos cs fs ts (omega arith) (omega arith))

head_same : (x y : ℕ) (xs ys : List ℕ) → x ∷ xs ≡ y ∷ ys → x ≡ y
head_same x y xs ys e = cc

tail_same : (x y : ℕ) (xs ys : List ℕ) → x ∷ xs ≡ y ∷ ys → xs ≡ ys
tail_same x y xs ys e = cc

-- ends that meeting the chunk leaves unchanged, with a cell between them, are those of parts
parts_each : (cs : List Cut) (fs ts : List ℕ) → length fs ≡ length cs → length ts ≡ length cs → All IsCut cs
    → latest fs (cut_froms cs) ≡ fs → earliest ts (cut_tos cs) ≡ ts → 0 < product (lengths fs ts) → All IsPart (parts_of cs fs ts)
parts_each [] fs ts a b each low high some = All-nil IsPart
parts_each (c ∷ cs) [] ts a b each low high some = absurd (omega arith)
parts_each (c ∷ cs) (f ∷ fs) [] a b each low high some = absurd (omega arith)
parts_each (c ∷ cs) (f ∷ fs) (t ∷ ts) a b each low high some =
    let cut = All-head IsCut c cs each in
    let within = cut.within in
    let short = cut.short in
    let first : max f c.from ≡ f = head_same (max f c.from) f (latest fs (cut_froms cs)) fs low in
    let last : min t c.to ≡ t = head_same (min t c.to) t (earliest ts (cut_tos cs)) ts high in
    let here = product-first (t - f) (product (lengths fs ts)) some in
    All-cons IsPart (record { extent = c.extent; length = c.length; start = c.from; from = f; to = t }) (parts_of cs fs ts)
    (record { after = omega (arith, first); some = omega (arith, here); within = omega (arith, last, within); short = omega (arith, last, short) })
    (parts_each cs fs ts (omega arith) (omega arith) (All-tail IsCut c cs each)
    (tail_same (max f c.from) f (latest fs (cut_froms cs)) fs low) (tail_same (min t c.to) t (earliest ts (cut_tos cs)) ts high)
    (product-second (t - f) (product (lengths fs ts)) some))

-- ---- three dimensions

abbrev pub part : Cut → ℕ → ℕ → Part
part c f t = record { extent = c.extent; length = c.length; start = c.from; from = f; to = t }

pub three_parts : (cs : List Cut) (fs ts : List ℕ) (d : Cut) → length cs ≡ 3 → length fs ≡ 3 → length ts ≡ 3
    → parts_of cs fs ts ≡ part (get_or cs 0 d) (get_or fs 0 0) (get_or ts 0 0) ∷ part (get_or cs 1 d) (get_or fs 1 0) (get_or ts 1 0) ∷ part (get_or cs 2 d) (get_or fs 2 0) (get_or ts 2 0) ∷ []
three_parts cs fs ts d a b c = (λ i. parts_of (three_items cs d a i) (three_items fs 0 b i) (three_items ts 0 c i))

-- the parts in each of the three dimensions
abbrev pub part_at : List Cut → Rect → Cut → ℕ → Part
part_at cs r d k = part (get_or cs k d) (get_or r.from k 0) (get_or r.to k 0)

one_of_three : (f : ℕ → Part) (k : ℕ) → k < 3 → All IsPart (f 0 ∷ f 1 ∷ f 2 ∷ []) → IsPart (f k)
one_of_three f zero below each = each 0 (f 0) (omega arith)
one_of_three f (suc zero) below each = each 1 (f 0) (omega arith)
one_of_three f (suc (suc zero)) below each = each 2 (f 0) (omega arith)
one_of_three f (suc (suc (suc k))) below each = absurd (omega arith)

pub each_part : (l : LayoutNumbers) (n : ℕ) (r : Rect) (cs : List Cut) (d : Cut) (k : ℕ) → AreParts l n r (parts_of cs r.from r.to) → length cs ≡ 3 → length r.from ≡ 3 → length r.to ≡ 3 → k < 3
    → IsPart (part_at cs r d k)
each_part l n r cs d k parts a b c below = one_of_three (part_at cs r d) k below (subst (All IsPart) (three_parts cs r.from r.to d a b c) parts.each)

-- a rectangle that lies in the chunk when they meet has only cells of the chunk
pub lies_inside : ((d : ℕ) (r s : Rect) (at : List ℕ) → HasDimensions d r → HasDimensions d s → rect_contains (meet_of r s) at ≡ (rect_contains r at && rect_contains s at))
    → (l : LayoutNumbers) (n : ℕ) (r : Rect) → IsLayout l → n < chunk_count l → HasDimensions 3 r → meet_of r (chunk_rect l n) ≡ r → LiesInside r (chunk_rect l n)
lies_inside meets l n r is below long inside at held =
    let ends = length-tile_ends l.extents l.chunk n is.facts.chunk_tiles below in
    let s = chunk_rect l n in
    (and_parts (rect_contains r at) (rect_contains s at)
    (sym (meets 3 r s at long (ends.0 ∙ is.extents, ends.1 ∙ is.extents)) ∙ ap (λ t. rect_contains t at) inside ∙ held)).1

-- ---- rectangles of a chunk

pub are_parts : (l : LayoutNumbers) (n : ℕ) (cs : List Cut) (r : Rect) → AreCuts l n cs → length r.from ≡ length cs → length r.to ≡ length cs
    → meet_of r (chunk_rect l n) ≡ r → 0 < area_of r → AreParts l n r (parts_of cs r.from r.to)
are_parts l n cs r cuts a b inside some =
    record {
      extents = parts_extents cs r.from r.to a b ∙ cuts.extents;
      lengths = parts_lengths cs r.from r.to a b ∙ cuts.lengths;
      starts = parts_starts cs r.from r.to a b ∙ cuts.from;
      from = parts_froms cs r.from r.to a b;
      to = parts_tos cs r.from r.to a b;
      each = parts_each cs r.from r.to a b cuts.each (ap (latest r.from) cuts.from ∙ ap (λ (s : Rect). s.from) inside) (ap (earliest r.to) cuts.to ∙ ap (λ (s : Rect). s.to) inside) some;
    }

-- ---- the cells of a chunk

-- a cell lies in a chunk if its coordinates lie between the chunk's ends
chunk_test : (l : LayoutNumbers) (n k : ℕ) → IsLayout l → n < chunk_count l → k < product l.extents
    → (cell_chunk l k == n) ≡ rect_contains (chunk_rect l n) (coordinates_of l.extents k)
chunk_test l n k is below inside =
    let ns = l.extents in
    let ms = l.chunk in
    let at = coordinates_of ns k in
    let tiling = is.facts.chunk_tiles in
    elim (cases_Bool (is_between_ends (tile_from ns ms n) (tile_to ns ms n) at)) [
      | inl held ↦ eq-eqb (cell_chunk l k) n (tile_of-tile_rect ns ms n at tiling below held) ∙ sym held
      | inr out ↦ (
          ne_eqb (cell_chunk l k) n
          (λ e. let held = subst (λ t. is_between_ends (tile_from ns ms t) (tile_to ns ms t) at ≡ true) e (tile_of-holds ns ms at tiling (in_bounds-coordinates_of ns k inside)) in let no : false ≡ true = sym out ∙ held in cc)
          ∙ sym out
          )
    ]

-- its index there is the one that its coordinates say
own_index-chunk : (l : LayoutNumbers) (n k : ℕ) (r : Rect) (ps : List Part) → IsLayout l → k < product l.extents → cell_chunk l k ≡ n → AreParts l n r ps → own_index ps k ≡ cell_index l k
own_index-chunk l n k r ps is inside in_chunk parts =
    let ns = l.extents in
    let ms = l.chunk in
    let at = coordinates_of ns k in
    let tiling = is.facts.chunk_tiles in
    let place = in_bounds-coordinates_of ns k inside in
    let first = tile_from-tile_of ns ms at n tiling place in_chunk in
    (λ i. index_of (parts.lengths i) (differences (coordinates_of (parts.extents i) k) (parts.starts i)))
    ∙ ap (λ qs. index_of ms (differences at qs)) first ∙ ap (index_of ms) (differences-firsts ns ms at tiling place)

-- the number at an index of the chunk
abbrev number : List Cell → ℕ → Option ℤ
number cells k = option_and_then (λ (x : Option ℤ). x) (slice_get (map cell_value cells) k)

number-cell : (cells : List Cell) (p : ℕ) → p < length cells → number cells p ≡ cell_value (get_or cells p empty_cell)
number-cell cells p below =
    let xs = map cell_value cells in
    let long : length xs ≡ length cells = length-map cells cell_value in
    ap (option_and_then (λ (x : Option ℤ). x)) (slice_get-get_or xs p None (omega (arith, long))) ∙ get_or-map cell_value cells p empty_cell None below

-- the places of a chunk in a rectangle that lies within it are those in the rectangle
shared-within : (l : LayoutNumbers) (n : ℕ) (r : Rect) → IsLayout l → n < chunk_count l → LiesInside r (chunk_rect l n)
    → shared_places l n r ≡ filter (λ k. rect_contains r (coordinates_of l.extents k)) (range_with_len 0 (product l.extents))
shared-within l n r is below inside =
    let all = range_with_len 0 (product l.extents) in
    let in_r = λ (k : ℕ). rect_contains r (coordinates_of l.extents k) in
    filter-filter in_r (λ k. cell_chunk l k == n) all
    ∙ filter_whole (λ k. cell_chunk l k == n) (filter in_r all)
    (λ k i.
    let m = in_filter_cases in_r all k i in
    let within = in_range 0 (product l.extents) k m.0 in
    chunk_test l n k is below (omega (arith, within.1)) ∙ inside (coordinates_of l.extents k) m.1)

rect_numbers-present : (l : LayoutNumbers) (n rank : ℕ) (r : Rect) (ps : List Part) (chunk : List Cell) → IsLayout l → n < chunk_count l → LiesInside r (chunk_rect l n) → AreParts l n r ps → length chunk ≡ chunk_cells l
    → present_cells (array_of rank l.chunk chunk) (map in_chunk ps) ≡ rect_numbers l n chunk r
rect_numbers-present l n rank r ps chunk is below inside parts long =
    let ns = l.extents in
    let ms = l.chunk in
    let all = range_with_len 0 (product ns) in
    let sides = map in_chunk ps in
    let tests = shared-within l n r is below inside
    ∙ filter-agree (λ k. rect_contains r (coordinates_of ns k)) (λ k. lies_in (map in_array ps) (coordinates_of ns k)) all
    (λ k _. sym (lies_in-ends ps (coordinates_of ns k) ∙ (λ i. is_between_ends (parts.from i) (parts.to i) (coordinates_of ns k)))) in
    let whole : places (part_lengths ps) (chunk_tests ps) ≡ map (own_index ps) (filter (λ k. lies_in (map in_array ps) (coordinates_of ns k)) all) =
    sym (places-cut ps parts.each) ∙ (λ i. map (own_index ps) (places (parts.extents i) (array_tests ps))) in
    ap (λ m. filter_map (number chunk) (filter (λ k. lies_in sides (coordinates_of ms k)) (range_with_len 0 m))) (length-map chunk cell_value ∙ long)
    ∙ ap (filter_map (number chunk)) ((λ i. places (sym parts.lengths i) (chunk_tests ps)) ∙ whole ∙ ap (map (own_index ps)) (sym tests))
    ∙ filter_map-map (number chunk) (own_index ps) (shared_places l n r)
    ∙ filter_map-agree (λ k. number chunk (own_index ps k)) (λ k. cell_value (get_or chunk (cell_index l k) empty_cell)) (shared_places l n r) each
  where
    each : (k : ℕ) → IsIn k (shared_places l n r) → number chunk (own_index ps k) ≡ cell_value (get_or chunk (cell_index l k) empty_cell)
    each k i =
        let in_r = in_filter_cases (λ k. rect_contains r (coordinates_of l.extents k)) (places_of_chunk l n) k i in
        let m = in_filter_cases (λ k. cell_chunk l k == n) (range_with_len 0 (product l.extents)) k in_r.0 in
        let inside : k < product l.extents = omega (arith, (in_range 0 (product l.extents) k m.0).1) in
        let in_chunk = eqb-true (cell_chunk l k) n m.1 in
        let tiling = is.facts.chunk_tiles in
        let place = index_in_tile-below l.extents l.chunk (coordinates_of l.extents k) tiling (in_bounds-coordinates_of l.extents k inside) in
        ap (number chunk) (own_index-chunk l n k r ps is inside in_chunk parts) ∙ number-cell chunk (cell_index l k) (subst (λ m. cell_index l k < m) (sym long) place)

-- the record of the region of a chunk that a rectangle is, is the record of the numbers in the rectangle
pub rect_record-is : (l : LayoutNumbers) (n : ℕ) (r : Rect) (ps : List Part) (ms : List ℕ) (sides : List Side) (chunk : List Cell) (result : Record) → IsLayout l → n < chunk_count l → LiesInside r (chunk_rect l n) → AreParts l n r ps → length chunk ≡ chunk_cells l
    → ms ≡ l.chunk → sides ≡ map in_chunk ps → ((rank : ℕ) → result ≡ record_of (present_cells (array_of rank ms chunk) sides)) → result ≡ record_of (rect_numbers l n chunk r)
rect_record-is l n r ps ms sides chunk result is below inside parts long m_is sides_are h =
    h 0 ∙ (λ i. record_of (present_cells (array_of 0 (m_is i) chunk) (sides_are i))) ∙ ap record_of (rect_numbers-present l n 0 r ps chunk is below inside parts long)

-- ---- the whole chunk

-- the numbers of a chunk in its own rectangle are all its numbers
pub rect_numbers-whole : (l : LayoutNumbers) (n : ℕ) (chunk : List Cell) → IsLayout l → n < chunk_count l → rect_numbers l n chunk (chunk_rect l n) ≡ chunk_numbers l n chunk
rect_numbers-whole l n chunk is below =
    ap (filter_map (λ k. cell_value (get_or chunk (cell_index l k) empty_cell)))
    (filter_whole (λ k. rect_contains (chunk_rect l n) (coordinates_of l.extents k)) (places_of_chunk l n)
    (λ k i.
    let m = in_filter_cases (λ k. cell_chunk l k == n) (range_with_len 0 (product l.extents)) k i in
    let within = in_range 0 (product l.extents) k m.0 in
    sym (chunk_test l n k is below (omega (arith, within.1))) ∙ m.1))

pub chunk_record-few : (l : LayoutNumbers) (n : ℕ) (chunk : List Cell) (r : Record) → r ≡ record_of (chunk_numbers l n chunk) → r.count ≤ length (places_of_chunk l n)
chunk_record-few l n chunk r e =
    let count : r.count ≡ length (chunk_numbers l n chunk) = ap (λ (x : Record). x.count) e in
    let few = length-filter_map-le (λ k. cell_value (get_or chunk (cell_index l k) empty_cell)) (places_of_chunk l n) in
    omega (arith, count, few)

-- the cuts of a chunk have a cell between their ends
cuts_area : (cs : List Cut) → All IsCut cs → 0 < product (lengths (cut_froms cs) (cut_tos cs))
cuts_area [] h = omega arith
cuts_area (c ∷ cs) h =
    let cut = All-head IsCut c cs h in
    let some = cut.some in product-some (c.to - c.from) (product (lengths (cut_froms cs) (cut_tos cs))) (omega (arith, some)) (cuts_area cs (All-tail IsCut c cs h))

pub whole_some : (l : LayoutNumbers) (n : ℕ) (cs : List Cut) (r : Rect) → AreCuts l n cs → r ≡ record { from = cut_froms cs; to = cut_tos cs } → 0 < area_of r
whole_some l n cs r cuts e = subst (λ s. 0 < area_of s) (sym e) (cuts_area cs cuts.each)

pub whole_rect : (l : LayoutNumbers) (n : ℕ) (cs : List Cut) (r : Rect) → AreCuts l n cs → r ≡ record { from = cut_froms cs; to = cut_tos cs } → r ≡ chunk_rect l n
whole_rect l n cs r cuts e = e ∙ (λ i. record { from = cuts.from i; to = cuts.to i })

latest-itself : (fs : List ℕ) → latest fs fs ≡ fs
latest-itself [] = refl
latest-itself (f ∷ fs) = let first : max f f ≡ f = omega arith in (λ i. first i ∷ latest-itself fs i)

earliest-itself : (ts : List ℕ) → earliest ts ts ≡ ts
earliest-itself [] = refl
earliest-itself (t ∷ ts) = let first : min t t ≡ t = omega arith in (λ i. first i ∷ earliest-itself ts i)

pub whole_inside : (r s : Rect) → r ≡ s → meet_of r s ≡ r
whole_inside r s e = ap (meet_of r) (sym e) ∙ (λ i. record { from = latest-itself r.from i; to = earliest-itself r.to i })

-- ---- a rectangle of any place

latest-again : (fs gs : List ℕ) → latest (latest fs gs) gs ≡ latest fs gs
latest-again [] gs = refl
latest-again (f ∷ fs) [] = refl
latest-again (f ∷ fs) (g ∷ gs) = let first : max (max f g) g ≡ max f g = omega arith in (λ i. first i ∷ latest-again fs gs i)

earliest-again : (ts us : List ℕ) → earliest (earliest ts us) us ≡ earliest ts us
earliest-again [] us = refl
earliest-again (t ∷ ts) [] = refl
earliest-again (t ∷ ts) (u ∷ us) = let first : min (min t u) u ≡ min t u = omega arith in (λ i. first i ∷ earliest-again ts us i)

-- a rectangle that is not empty has a cell
pub some_shared : (b : Bool) (r : Rect) → b ≡ false → (IsTrue b ↔ area_of r ≡ 0) → 0 < area_of r
some_shared b r some empty = by_number (area_of r) (λ e. empty.1 e)
  where
    by_number : (n : ℕ) → (n ≡ 0 → IsTrue b) → 0 < n
    by_number zero h = let holds = h refl in cc
    by_number (suc n) h = omega arith

-- what a rectangle shares with a chunk lies in the chunk
pub shared_inside : (r s both : Rect) → both ≡ meet_of r s → meet_of both s ≡ both
shared_inside r s both e = ap (λ t. meet_of t s) e ∙ (λ i. record { from = latest-again r.from s.from i; to = earliest-again r.to s.to i }) ∙ sym e

-- the part of a rectangle that lies in a chunk has the same numbers of the chunk
pub rect_numbers-meet : ((d : ℕ) (r s : Rect) (at : List ℕ) → HasDimensions d r → HasDimensions d s → rect_contains (meet_of r s) at ≡ (rect_contains r at && rect_contains s at))
    → (l : LayoutNumbers) (n : ℕ) (chunk : List Cell) (r : Rect) → IsLayout l → n < chunk_count l → HasDimensions (length l.extents) r
    → rect_numbers l n chunk (meet_of r (chunk_rect l n)) ≡ rect_numbers l n chunk r
rect_numbers-meet meets l n chunk r is below long =
    let ends = length-tile_ends l.extents l.chunk n is.facts.chunk_tiles below in
    ap (filter_map (λ k. cell_value (get_or chunk (cell_index l k) empty_cell)))
    (filter-agree (λ k. rect_contains (meet_of r (chunk_rect l n)) (coordinates_of l.extents k)) (λ k. rect_contains r (coordinates_of l.extents k)) (places_of_chunk l n)
    (λ k i.
    let m = in_filter_cases (λ k. cell_chunk l k == n) (range_with_len 0 (product l.extents)) k i in
    let within = in_range 0 (product l.extents) k m.0 in
    let at = coordinates_of l.extents k in
    let held : rect_contains (chunk_rect l n) at ≡ true = sym (chunk_test l n k is below (omega (arith, within.1))) ∙ m.1 in
    meets (length l.extents) r (chunk_rect l n) at long ends ∙ ap (λ b. rect_contains r at && b) held ∙ and_true (rect_contains r at)))
  where
    and_true : (b : Bool) → (b && true) ≡ b
    and_true true = refl
    and_true false = refl

-- a rectangle that has no cell in a chunk has no numbers there
pub rect_numbers-none : (l : LayoutNumbers) (n : ℕ) (chunk : List Cell) (r : Rect) → area_of r ≡ 0 → rect_numbers l n chunk r ≡ []
rect_numbers-none l n chunk r none =
    ap (filter_map (λ k. cell_value (get_or chunk (cell_index l k) empty_cell)))
    (filter_none (λ k. rect_contains r (coordinates_of l.extents k)) (places_of_chunk l n)
    (λ k _. not_held (rect_contains r (coordinates_of l.extents k)) refl (λ held. let some = some_place r.from r.to (coordinates_of l.extents k) held in omega (arith, some, none))))
  where
    not_held : (b : Bool) {c : Bool} → c ≡ b → (c ≡ true → ⊥) → c ≡ false
    not_held true e h = absurd (h e)
    not_held false e h = e

-- ---- the cells of an array

module _ (meets : (d : ℕ) (r s : Rect) (at : List ℕ) → HasDimensions d r → HasDimensions d s → rect_contains (meet_of r s) at ≡ (rect_contains r at && rect_contains s at))
    (met : (d : ℕ) (r s : Rect) → HasDimensions d r → HasDimensions d s → HasDimensions d (meet_of r s))
    (sides : (d : ℕ) (r : Rect) (at : List ℕ) → HasDimensions d r → lies_in (sides_of r) at ≡ rect_contains r at) where
  -- the places of a chunk in a rectangle are those of the region that both share
  shared-region : (l : LayoutNumbers) (n : ℕ) (r : Rect) → IsLayout l → n < chunk_count l → HasDimensions (length l.extents) r
      → shared_places l n r ≡ filter (λ k. lies_in (sides_of (meet_of r (chunk_rect l n))) (coordinates_of l.extents k)) (range_with_len 0 (product l.extents))
  shared-region l n r is below long =
      let ns = l.extents in
      let all = range_with_len 0 (product ns) in
      let rect = chunk_rect l n in
      let ends = length-tile_ends ns l.chunk n is.facts.chunk_tiles below in
      let in_r = λ (k : ℕ). rect_contains r (coordinates_of ns k) in
      let in_chunk = λ (k : ℕ). cell_chunk l k == n in
      filter-filter in_r in_chunk all
      ∙ filter-and in_chunk in_r all
      ∙ filter-agree (λ k. in_r k && in_chunk k) (λ k. lies_in (sides_of (meet_of r rect)) (coordinates_of ns k)) all
      (λ k i.
      let at = coordinates_of ns k in
      let within = in_range 0 (product ns) k i in
      ap (λ b. rect_contains r at && b) (chunk_test l n k is below (omega (arith, within.1)))
      ∙ sym (sides (length ns) (meet_of r rect) at (met (length ns) r rect long ends) ∙ meets (length ns) r rect at long ends))

  -- the numbers of a chunk in a rectangle are those that the array has there
  pub rect_numbers-array : (l : LayoutNumbers) (n : ℕ) (a : Array) (chunk : List Cell) (r : Rect) → IsLayout l → n < chunk_count l → HasDimensions (length l.extents) r → IsArrayOf l a → IsChunkOf l n a chunk
      → rect_numbers l n chunk r ≡ shared_numbers a l.chunk r n
  rect_numbers-array l n a chunk r is below long of cells =
      let ns = l.extents in
      let size : length a.cells ≡ product ns = of.cells ∙ ap product of.extents in
      filter_map-agree (λ k. cell_value (get_or chunk (cell_index l k) empty_cell)) (number_at a) (shared_places l n r)
      (λ k i.
      let in_r = in_filter_cases (λ k. rect_contains r (coordinates_of ns k)) (places_of_chunk l n) k i in
      let m = in_filter_cases (λ k. cell_chunk l k == n) (range_with_len 0 (product ns)) k in_r.0 in
      let within = in_range 0 (product ns) k m.0 in
      sym (cells k (omega (arith, within.1)) (eqb-true (cell_chunk l k) n m.1)))
      ∙ ap (filter_map (number_at a))
      (shared-region l n r is below long
      ∙ (λ i. filter (λ k. lies_in (sides_of (meet_of r (tile_rect (sym of.extents i) l.chunk n))) (coordinates_of (sym of.extents i) k)) (range_with_len 0 (sym size i))))
