-- The cells that a rectangle shares with tiles, and the records of tiles.
-- Used by the laws `tiles_meet_rectangles`, `tiles_share_out_rectangles`, `tile_records_merge` and `block_records_merge`.
use Rattle.std.proofs.Common.{◌≡◌, ◌↔◌, ℕ, ◌+◌, ◌<◌, ◌==◌, Bool, true, false, ◌&&◌, inl, inr, List, [], length, filter, filter_map, flat_map, fold, ℤ, refl, sym, ap, ◌∙◌, subst, arith, eq-eqb, ne_eqb}
use Rattle.std.specs.List.{range_with_len}
use Rattle.std.proofs.lemmas.Bool.{cases_Bool, eqb-true, eqb-false, and_from}
use Rattle.lists.specs.Numbers.{product, HaveSameItems}
use Rattle.lists.proofs.Filters.{filter-and, filter-agree, flat_map-agree, filter_map-flat_map}
use Rattle.lists.proofs.Members.{IsIn, in_filter_cases, filter_none}
use Rattle.lists.proofs.Ranges.{in_range}
use Rattle.lists.proofs.SameItems.{same-filter_map}
use Rattle.lists.proofs.Shares.{same-shared, flat_map-filter}
use Rattle.grids.specs.Coordinates.{coordinates_of, in_bounds}
use Rattle.grids.specs.Tiles.{IsTiling, AreMultiples, tile_count, tile_of, tile_from}
use Rattle.grids.proofs.Coordinates.{in_bounds-coordinates_of}
use Rattle.grids.proofs.Ends.{earliest, some_place}
use Rattle.grids.proofs.Meeting.{tiles_meet, length-tile_ends}
use Rattle.grids.proofs.Nesting.{tile_rect-inside, tile_rect-inside_one}
use Rattle.grids.proofs.Tilings.{tile_of-below, tile_of-holds, tile_of-tile_rect}
use Rattle.cells.specs.Array.{Array, lies_in, number_at, present_cells, places_of}
use Rattle.cells.specs.Records.{record_of, merged}
use Rattle.cells.specs.Rects.{rect_contains, area_of, meet_of, sides_of, HasDimensions, IsCutTo}
use Rattle.cells.specs.declared.rect.Rect.{Rect}
use Rattle.layouts.specs.Chunks.{tile_rect, block_extents, block_count, chunk_count}
use Rattle.layouts.specs.Meeting.{is_meeting, meeting_tiles, shared_numbers, tile_numbers, tile_record, block_record, blocks_inside, blocks_in_chunk, IsArrayOf}
use Rattle.layouts.specs.Rules.{IsLayout}
use Rattle.layouts.specs.declared.numbers.LayoutNumbers.{LayoutNumbers}

-- ---- which tiles meet a rectangle

pub meets_rect : (ns ms : List ℕ) (r : Rect) (t : ℕ) → IsTiling ns ms → HasDimensions (length ns) r → IsCutTo ns r → t < tile_count ns ms
    → (0 < area_of (meet_of r (tile_rect ns ms t))) ↔ (is_meeting ns ms r t ≡ true)
meets_rect ns ms r t tiling long cut below =
    let short : earliest r.to ns ≡ r.to = ap (λ (s : Rect). s.to) cut in
    tiles_meet ns ms r.from r.to t tiling below long.0 long.1 short

-- a tile has a cell of the array exactly if it is the cell's tile
tile_test : (ns ms : List ℕ) (t : ℕ) (at : List ℕ) → IsTiling ns ms → t < tile_count ns ms → in_bounds ns at ≡ true → (tile_of ns ms at == t) ≡ rect_contains (tile_rect ns ms t) at
tile_test ns ms t at tiling below inside =
    elim (cases_Bool (rect_contains (tile_rect ns ms t) at)) [
      | inl held ↦ eq-eqb (tile_of ns ms at) t (tile_of-tile_rect ns ms t at tiling below held) ∙ sym held
      | inr out ↦ (
          ne_eqb (tile_of ns ms at) t
          (λ e. let held = subst (λ u. rect_contains (tile_rect ns ms u) at ≡ true) e (tile_of-holds ns ms at tiling inside) in let no : false ≡ true = sym out ∙ held in cc)
          ∙ sym out
          )
    ]

-- ---- the numbers that a rectangle shares with tiles

-- the tile of the k-th cell
abbrev tile_at : Array → List ℕ → ℕ → ℕ
tile_at a ms k = tile_of a.extents ms (coordinates_of a.extents k)

-- the cells of a region that lie in tile t
abbrev numbers_in : Array → List ℕ → List ℕ → ℕ → List ℤ
numbers_in a ms ks t = filter_map (number_at a) (filter (λ k. tile_at a ms k == t) ks)

-- some places of an array give the same numbers as those of each tile, one tile after the other
shared_places : (a : Array) (ms : List ℕ) (ks : List ℕ) → IsTiling a.extents ms → ((k : ℕ) → IsIn k ks → k < product a.extents)
    → HaveSameItems (filter_map (number_at a) ks) (flat_map (numbers_in a ms ks) (range_with_len 0 (tile_count a.extents ms)))
shared_places a ms ks tiling within =
    let n = tile_count a.extents ms in
    let parts = λ (t : ℕ). filter (λ k. tile_at a ms k == t) ks in
    subst (HaveSameItems (filter_map (number_at a) ks)) (filter_map-flat_map (number_at a) parts (range_with_len 0 n))
    (same-filter_map (number_at a) ks (flat_map parts (range_with_len 0 n))
    (same-shared (tile_at a ms) n ks (λ k i. tile_of-below a.extents ms (coordinates_of a.extents k) tiling (in_bounds-coordinates_of a.extents k (within k i)))))

place_within : (a : Array) (p : ℕ → Bool) (k : ℕ) → length a.cells ≡ product a.extents → IsIn k (filter p (range_with_len 0 (length a.cells))) → k < product a.extents
place_within a p k long i =
    let m = in_filter_cases p (range_with_len 0 (length a.cells)) k i in
    let r = in_range 0 (length a.cells) k m.0 in omega (arith, r.1, long)

module _ (sides : (d : ℕ) (r : Rect) (at : List ℕ) → HasDimensions d r → lies_in (sides_of r) at ≡ rect_contains r at) where
  -- the cells of a region in tile t are those of another region
  module _ (a : Array) (ms : List ℕ) (t : ℕ) (r s : Rect) (tiling : IsTiling a.extents ms) (below : t < tile_count a.extents ms) (long : length a.cells ≡ product a.extents)
      (one : HasDimensions (length a.extents) r) (other : HasDimensions (length a.extents) s)
      (same : (at : List ℕ) → in_bounds a.extents at ≡ true → (rect_contains r at && rect_contains (tile_rect a.extents ms t) at) ≡ rect_contains s at) where
    tile_numbers-are : numbers_in a ms (places_of a (sides_of r)) t ≡ present_cells a (sides_of s)
    tile_numbers-are =
        let ns = a.extents in let d = length ns in
        let here = λ (k : ℕ). tile_at a ms k == t in
        let in_r = λ (k : ℕ). lies_in (sides_of r) (coordinates_of ns k) in
        let in_s = λ (k : ℕ). lies_in (sides_of s) (coordinates_of ns k) in
        ap (filter_map (number_at a))
        (filter-and here in_r (range_with_len 0 (length a.cells))
        ∙ filter-agree (λ k. in_r k && here k) in_s (range_with_len 0 (length a.cells))
        (λ k i.
        let at = coordinates_of ns k in
        let within = in_range 0 (length a.cells) k i in
        let inside = in_bounds-coordinates_of ns k (omega (arith, within.1, long)) in
        (λ j. sides d r at one j && tile_test ns ms t at tiling below inside j) ∙ same at inside ∙ sym (sides d s at other)))

  module _ (meets : (d : ℕ) (r s : Rect) (at : List ℕ) → HasDimensions d r → HasDimensions d s → rect_contains (meet_of r s) at ≡ (rect_contains r at && rect_contains s at))
      (met : (d : ℕ) (r s : Rect) → HasDimensions d r → HasDimensions d s → HasDimensions d (meet_of r s)) where
    shared_all : (a : Array) (ms : List ℕ) (r : Rect) → IsTiling a.extents ms → length a.cells ≡ product a.extents → HasDimensions (length a.extents) r
        → HaveSameItems (present_cells a (sides_of r)) (flat_map (shared_numbers a ms r) (range_with_len 0 (tile_count a.extents ms)))
    shared_all a ms r tiling long one =
        let ns = a.extents in let ks = places_of a (sides_of r) in let n = tile_count ns ms in
        subst (HaveSameItems (present_cells a (sides_of r)))
        (flat_map-agree (numbers_in a ms ks) (shared_numbers a ms r) (range_with_len 0 n)
        (λ t i.
        let below = in_range 0 n t i in
        let s = tile_rect ns ms t in
        let ends = length-tile_ends ns ms t tiling (omega (arith, below.1)) in
        tile_numbers-are a ms t r (meet_of r s) tiling (omega (arith, below.1)) long one (met (length ns) r s one ends) (λ at _. sym (meets (length ns) r s at one ends))))
        (shared_places a ms ks tiling (λ k i. place_within a (λ k. lies_in (sides_of r) (coordinates_of ns k)) k long i))

    -- a tile that does not meet the rectangle shares no cell with it
    shared_none : (a : Array) (ms : List ℕ) (r : Rect) (t : ℕ) → IsTiling a.extents ms → HasDimensions (length a.extents) r → IsCutTo a.extents r → t < tile_count a.extents ms
        → is_meeting a.extents ms r t ≡ false → shared_numbers a ms r t ≡ []
    shared_none a ms r t tiling one cut below apart =
        let ns = a.extents in let s = tile_rect ns ms t in let both = meet_of r s in
        let ends = length-tile_ends ns ms t tiling below in
        ap (filter_map (number_at a))
        (filter_none (λ k. lies_in (sides_of both) (coordinates_of ns k)) (range_with_len 0 (length a.cells))
        (λ k _. not_held (lies_in (sides_of both) (coordinates_of ns k)) refl
        (λ held.
        let some = some_place both.from both.to (coordinates_of ns k) (sym (sides (length ns) both (coordinates_of ns k) (met (length ns) r s one ends)) ∙ held) in
        let meeting = (meets_rect ns ms r t tiling one cut below).0 some in
        let no : false ≡ true = sym apart ∙ meeting in cc)))
      where
        not_held : (b : Bool) {c : Bool} → c ≡ b → (c ≡ true → ⊥) → c ≡ false
        not_held true e h = absurd (h e)
        not_held false e h = e

    pub shared_meeting : (a : Array) (ms : List ℕ) (r : Rect) → IsTiling a.extents ms → length a.cells ≡ product a.extents → HasDimensions (length a.extents) r → IsCutTo a.extents r
        → HaveSameItems (present_cells a (sides_of r)) (flat_map (shared_numbers a ms r) (meeting_tiles a.extents ms r))
    shared_meeting a ms r tiling long one cut =
        let n = tile_count a.extents ms in
        subst (HaveSameItems (present_cells a (sides_of r)))
        (flat_map-filter (is_meeting a.extents ms r) (shared_numbers a ms r) (range_with_len 0 n)
        (λ t i apart. let below = in_range 0 n t i in shared_none a ms r t tiling one cut (omega (arith, below.1)) apart))
        (shared_all a ms r tiling long one)

  -- ---- shorter tiles inside a longer one

  module _ (a : Array) (ms ks : List ℕ) (u : ℕ) (shorter : IsTiling a.extents ms) (longer : IsTiling a.extents ks) (multiples : AreMultiples ks ms)
      (long : length a.cells ≡ product a.extents) (among : u < tile_count a.extents ks) where
    abbrev around : ℕ → ℕ
    around t = tile_of a.extents ks (tile_from a.extents ms t)

    -- the cells that the longer tile shares with a shorter one: all of them if it is inside, and otherwise none
    inside_shared : (t : ℕ) (at : List ℕ) → t < tile_count a.extents ms → around t ≡ u
        → (rect_contains (tile_rect a.extents ks u) at && rect_contains (tile_rect a.extents ms t) at) ≡ rect_contains (tile_rect a.extents ms t) at
    inside_shared t at below e =
        elim (cases_Bool (rect_contains (tile_rect a.extents ms t) at)) [
          | inl held ↦ (
              and_from (rect_contains (tile_rect a.extents ks u) at) (rect_contains (tile_rect a.extents ms t) at)
              (subst (λ v. rect_contains (tile_rect a.extents ks v) at ≡ true) e (tile_rect-inside a.extents ms ks t shorter longer multiples below at held)) held
              ∙ sym held
              )
          | inr out ↦ not_second (rect_contains (tile_rect a.extents ks u) at) (rect_contains (tile_rect a.extents ms t) at) out ∙ sym out
        ]
      where
        not_second : (b c : Bool) → c ≡ false → (b && c) ≡ false
        not_second true c e = e
        not_second false c e = refl

    apart_shared : (t : ℕ) → t < tile_count a.extents ms → (around t == u) ≡ false → numbers_in a ms (places_of a (sides_of (tile_rect a.extents ks u))) t ≡ []
    apart_shared t below elsewhere =
        let ns = a.extents in
        let ends = length-tile_ends ns ks u longer among in
        ap (filter_map (number_at a))
        (filter_none (λ k. tile_at a ms k == t) (places_of a (sides_of (tile_rect ns ks u)))
        (λ k i.
        let in_u = λ (k : ℕ). lies_in (sides_of (tile_rect ns ks u)) (coordinates_of ns k) in
        let m = in_filter_cases in_u (range_with_len 0 (length a.cells)) k i in
        let inside = in_bounds-coordinates_of ns k (place_within a in_u k long i) in
        let at = coordinates_of ns k in
        let held = sym (sides (length ns) (tile_rect ns ks u) at ends) ∙ m.1 in
        ne_eqb (tile_at a ms k) t
        (λ e.
        let there = subst (λ v. rect_contains (tile_rect ns ms v) at ≡ true) e (tile_of-holds ns ms at shorter inside) in
        let same = tile_rect-inside_one ns ms ks t u at shorter longer multiples below among there held in
        eqb-false (around t) u elsewhere (sym same))))

    pub parts_same : HaveSameItems (tile_numbers a ks u) (flat_map (tile_numbers a ms) (filter (λ t. around t == u) (range_with_len 0 (tile_count a.extents ms))))
    parts_same =
        let ns = a.extents in let n = tile_count ns ms in let r = tile_rect ns ks u in
        let places = places_of a (sides_of r) in
        let one = length-tile_ends ns ks u longer among in
        subst (HaveSameItems (tile_numbers a ks u))
        (flat_map-filter (λ t. around t == u) (numbers_in a ms places) (range_with_len 0 n)
        (λ t i elsewhere. let below = in_range 0 n t i in apart_shared t (omega (arith, below.1)) elsewhere)
        ∙ flat_map-agree (numbers_in a ms places) (tile_numbers a ms) (filter (λ t. around t == u) (range_with_len 0 n))
        (λ t i.
        let m = in_filter_cases (λ t. around t == u) (range_with_len 0 n) t i in
        let below = in_range 0 n t m.0 in
        let ends = length-tile_ends ns ms t shorter (omega (arith, below.1)) in
        tile_numbers-are a ms t r (tile_rect ns ms t) shorter (omega (arith, below.1)) long one ends
        (λ at _. inside_shared t at (omega (arith, below.1)) (eqb-true (around t) u m.1))))
        (shared_places a ms places shorter (λ k i. place_within a (λ k. lies_in (sides_of r) (coordinates_of ns k)) k long i))

-- ---- records

-- the record of numbers that are, up to order, those of some parts
pub record_of_parts : ((part : ℕ → List ℤ) (parts : List ℕ) → record_of (flat_map part parts) ≡ fold (λ all n. merged all (record_of (part n))) (record_of []) parts)
    → ((xs ys : List ℤ) → HaveSameItems xs ys → record_of xs ≡ record_of ys)
    → (xs : List ℤ) (part : ℕ → List ℤ) (parts : List ℕ) → HaveSameItems xs (flat_map part parts) → record_of xs ≡ fold (λ all n. merged all (record_of (part n))) (record_of []) parts
record_of_parts merges same xs part parts h = same xs (flat_map part parts) h ∙ merges part parts

-- ---- blocks

module _ (merges : (a : Array) (ms ks : List ℕ) (u : ℕ) → IsTiling a.extents ms → IsTiling a.extents ks → AreMultiples ks ms → length a.cells ≡ product a.extents → u < tile_count a.extents ks
    → tile_record a ks u ≡ fold (λ all t. merged all (tile_record a ms t)) (record_of []) (filter (λ t. tile_of a.extents ks (tile_from a.extents ms t) == u) (range_with_len 0 (tile_count a.extents ms)))) where
  -- the same for extents that are those of the array
  merges_for : (a : Array) (ns ms ks : List ℕ) (u : ℕ) → a.extents ≡ ns → IsTiling ns ms → IsTiling ns ks → AreMultiples ks ms → length a.cells ≡ product a.extents → u < tile_count ns ks
      → tile_record a ks u ≡ fold (λ all t. merged all (tile_record a ms t)) (record_of []) (filter (λ t. tile_of ns ks (tile_from ns ms t) == u) (range_with_len 0 (tile_count ns ms)))
  merges_for a ns ms ks u e short long multiples cells among =
      merges a ms ks u (subst (λ es. IsTiling es ms) (sym e) short) (subst (λ es. IsTiling es ks) (sym e) long) multiples cells (subst (λ es. u < tile_count es ks) (sym e) among)
      ∙ (λ i. fold (λ all t. merged all (tile_record a ms t)) (record_of []) (filter (λ t. tile_of (e i) ks (tile_from (e i) ms t) == u) (range_with_len 0 (tile_count (e i) ms))))

  pub block_records : (a : Array) (l : LayoutNumbers) (level c : ℕ) → IsLayout l → IsArrayOf l a → level + 1 < l.levels → c < block_count l (level + 1)
      → block_record a l (level + 1) c ≡ fold (λ all b. merged all (block_record a l level b)) (record_of []) (blocks_inside l level c)
  block_records a l level c is of used among =
      let f = is.facts in
      merges_for a l.extents (block_extents l level) (block_extents l (level + 1)) c of.extents (f.block_tiles level (omega (arith, used))) (f.block_tiles (level + 1) used) (f.block_multiples level used) of.cells among

  pub chunk_records : (a : Array) (l : LayoutNumbers) (n : ℕ) → IsLayout l → IsArrayOf l a → n < chunk_count l
      → tile_record a l.chunk n ≡ fold (λ all b. merged all (block_record a l 0 b)) (record_of []) (blocks_in_chunk l n)
  chunk_records a l n is of among =
      let f = is.facts in
      merges_for a l.extents (block_extents l 0) l.chunk n of.extents (f.block_tiles 0 f.levels_some) f.chunk_tiles f.chunk_divided of.cells among
