-- Chunks that are put in their places, by the cuts of a chunk.
-- Used by the proofs of `Takings` and `place_chunk`.
use Rattle.std.proofs.Common.{◌≡◌, ℕ, ◌+◌, ◌-◌, ◌*◌, ◌/◌, ◌%◌, ◌≤◌, ◌<◌, nat_le, nat_lt, true, ◌&&◌, inl, inr, List, [], ◌∷◌, ◌++◌, length, take, drop, replicate, get_or, map, All, refl, sym, ap, ◌∙◌, subst, arith, length-take-le, length-append}
use Rattle.std.proofs.Math.Nat.{mul-le-mul}
use Rattle.std.proofs.lemmas.Bool.{cases_Bool, cases_lt, and_parts, ltb-true}
use Rattle.std.proofs.lemmas.List.{length-replicate, take_at, get_or-take, get_or-drop, get_or_append_left}
use Rattle.std.proofs.lemmas.Nat.{mod_below, div-add-mod', row_fits}
use Rattle.std.proofs.lemmas.List.Elements.{All-cons, All-nil, All-head, All-tail}
use Rattle.lists.specs.Numbers.{product}
use Rattle.lists.proofs.Short.{three_items}
use Rattle.grids.specs.Coordinates.{coordinates_of, index_of}
use Rattle.grids.specs.Ends.{is_between_ends}
use Rattle.grids.specs.Tiles.{tile_from, tile_to, tile_of, index_in_tile}
use Rattle.grids.proofs.Coordinates.{second_some, in_bounds-coordinates_of}
use Rattle.grids.proofs.Tilings.{tile_of-holds, tile_of-tile_rect}
use Rattle.grids.proofs.TileIndices.{differences, differences-firsts, tile_from-tile_of}
use Rattle.cells.specs.declared.cell.Cell.{Cell}
use Rattle.layouts.specs.Chunks.{chunk_count}
use Rattle.layouts.specs.Cuts.{cut_extents, cut_lengths, cut_froms, cut_tos, IsCut, AreCuts}
use Rattle.layouts.specs.Rules.{IsLayout}
use Rattle.layouts.specs.declared.cut.Cut.{Cut}
use Rattle.layouts.specs.declared.numbers.LayoutNumbers.{LayoutNumbers}
use Rattle.chunk_copies.specs.Boxes.{source_size, target_size, is_copied, source_index, IsWithinBoth, CopiesBox}
use Rattle.chunk_copies.specs.Placing.{PlacesChunk}
use Rattle.chunk_copies.specs.declared.boxes.Stretch.{Stretch}

-- from the chunk to the array, in one dimension
abbrev pub to_array : Cut → Stretch
to_array c = record { count = c.to - c.from; source = c.length; from = 0; target = c.extent; to = c.from }

sizes : (cs : List Cut) → (target_size (map to_array cs) ≡ product (cut_extents cs)) × (source_size (map to_array cs) ≡ product (cut_lengths cs))
sizes [] = (refl, refl)
sizes (c ∷ cs) = let rest = sizes cs in ((λ i. c.extent * rest.0 i), (λ i. c.length * rest.1 i))

copied : (cs : List Cut) (k : ℕ) → All IsCut cs → is_copied (map to_array cs) k ≡ is_between_ends (cut_froms cs) (cut_tos cs) (coordinates_of (cut_extents cs) k)
copied [] k h = refl
copied (c ∷ cs) k h =
    let here = All-head IsCut c cs h in
    let size = (sizes cs).0 in
    let some = here.some in
    let count : c.from + (c.to - c.from) ≡ c.to = omega (arith, some) in
    let rest = copied cs (k % product (cut_extents cs)) (All-tail IsCut c cs h) in
    (λ i. (nat_le c.from (k / size i) && nat_lt (k / size i) (count i)) && is_copied (map to_array cs) (k % size i))
    ∙ ap (λ b. (nat_le c.from (k / product (cut_extents cs)) && nat_lt (k / product (cut_extents cs)) c.to) && b) rest

source : (cs : List Cut) (k : ℕ) → source_index (map to_array cs) k ≡ index_of (cut_lengths cs) (differences (coordinates_of (cut_extents cs) k) (cut_froms cs))
source [] k = refl
source (c ∷ cs) k =
    let all = sizes cs in
    let rest = source cs (k % product (cut_extents cs)) in
    let none : 0 + (k / product (cut_extents cs) - c.from) ≡ k / product (cut_extents cs) - c.from = omega arith in
    (λ i. (0 + (k / all.0 i - c.from)) * all.1 i + source_index (map to_array cs) (k % all.0 i))
    ∙ (λ i. none i * product (cut_lengths cs) + rest i)

pub within : (cs : List Cut) → All IsCut cs → All IsWithinBoth (map to_array cs)
within [] h = All-nil IsWithinBoth
within (c ∷ cs) h =
    let here = All-head IsCut c cs h in
    let a = here.some in
    let b = here.within in
    let d = here.short in
    All-cons IsWithinBoth (to_array c) (map to_array cs) (omega (arith, a, b, d), omega (arith, a, b, d)) (within cs (All-tail IsCut c cs h))

pub source_fits : (cs : List Cut) (ms : List ℕ) (n : ℕ) → cut_lengths cs ≡ ms → n ≡ product ms → source_size (map to_array cs) ≤ n
source_fits cs ms n same long = let size = (sizes cs).1 ∙ ap product same in omega (arith, size, long)

pub target_fits : (cs : List Cut) (ns : List ℕ) (n : ℕ) → cut_extents cs ≡ ns → n ≡ product ns → target_size (map to_array cs) ≡ n
target_fits cs ns n same long = (sizes cs).0 ∙ ap product same ∙ sym long

-- ---- the first cells of the array, up to the end of the chunk in the first dimension

le_self : (n : ℕ) → n ≤ n
le_self n = omega arith

-- the cut of a chunk, as if the array ended with the chunk
abbrev pub reached : Cut → Cut
reached c = record { extent = c.to; length = c.length; from = c.from; to = c.to }

pub each_reached : (c : Cut) (cs : List Cut) → All IsCut (c ∷ cs) → All IsCut (reached c ∷ cs)
each_reached c cs h =
    let here = All-head IsCut c cs h in
    let some = here.some in
    let short = here.short in
    All-cons IsCut (reached c) cs (record { some = some; within = omega arith; short = short; end = omega (arith, short) }) (All-tail IsCut c cs h)

-- the cells up to that end are some of all cells
pub end_fits : (c : Cut) (cs : List Cut) (ns : List ℕ) → All IsCut (c ∷ cs) → cut_extents (c ∷ cs) ≡ ns → c.to * product (cut_extents cs) ≤ product ns
end_fits c cs ns h same =
    let here = All-head IsCut c cs h in
    let less = mul-le-mul {n₁ = c.to} {m₁ = product (cut_extents cs)} here.within (le_self (product (cut_extents cs))) in
    let all : c.extent * product (cut_extents cs) ≡ product ns = ap product same in
    omega (arith, less, all)

-- the three cuts of a chunk, one by one
pub are_three : (l : LayoutNumbers) (n : ℕ) (cs : List Cut) (d : Cut) → length cs ≡ 3 → AreCuts l n cs → AreCuts l n (get_or cs 0 d ∷ get_or cs 1 d ∷ get_or cs 2 d ∷ [])
are_three l n cs d three cuts = subst (AreCuts l n) (three_items cs d three) cuts

pub end_of : (l : LayoutNumbers) (n : ℕ) (a b c : Cut) → AreCuts l n (a ∷ b ∷ c ∷ []) → a.to * (b.extent * c.extent) ≤ product l.extents
end_of l n a b c cuts = let fits = end_fits a (b ∷ c ∷ []) l.extents cuts.each cuts.extents in omega (arith, fits)

-- a cell of the box lies before that end
before_end : (c : Cut) (cs : List Cut) (k : ℕ) → IsCut c → 0 < product (cut_extents cs) → is_copied (map to_array (c ∷ cs)) k ≡ true → k < c.to * product (cut_extents cs)
before_end c cs k is extent inside =
    let size = target_size (map to_array cs) in
    let ends = and_parts (nat_le c.from (k / size)) (nat_lt (k / size) (c.from + (c.to - c.from))) (and_parts _ (is_copied (map to_array cs) (k % size)) inside).0 in
    let some = is.some in
    let high = ltb-true (k / size) (c.from + (c.to - c.from)) ends.1 in
    let low : k / size < c.to = omega (arith, high, some) in
    let room = row_fits (k / size) size c.to size low (le_self size) in
    let parts = div-add-mod' k size in
    let rest = mod_below k size (subst (λ m. 0 < m) (sym (sizes cs).0) extent) in
    subst (λ m. k < c.to * m) (sizes cs).0 (omega (arith, room, parts, rest))

pub places_chunk : (l : LayoutNumbers) (n : ℕ) (c : Cut) (cs : List Cut) (chunk old more new : List Cell) → IsLayout l → n < chunk_count l → AreCuts l n (c ∷ cs)
    → length (old ++ more) ≤ product l.extents → c.to * product (cut_extents cs) ≤ length (old ++ more)
    → CopiesBox (map to_array (reached c ∷ cs)) chunk (take (c.to * product (cut_extents cs)) (old ++ more)) (take (c.to * product (cut_extents cs)) new)
    → drop (c.to * product (cut_extents cs)) new ≡ drop (c.to * product (cut_extents cs)) (old ++ more) → length new ≡ length (old ++ more) → PlacesChunk l n chunk old new
places_chunk l n c cs chunk old more new is below cuts few room box rest whole =
    let ns = l.extents in
    let ms = l.chunk in
    let all = c ∷ cs in
    let grown = old ++ more in
    let end = c.to * product (cut_extents cs) in
    let tiling = is.facts.chunk_tiles in
    let here = All-head IsCut c cs cuts.each in
    let first : length (take end grown) ≡ end = length-take-le end grown room in
    let test = λ (k : ℕ). copied all k cuts.each ∙ (λ i. is_between_ends (cuts.from i) (cuts.to i) (coordinates_of (cuts.extents i) k)) in
    let inside_box : (k : ℕ) → k < product ns → tile_of ns ms (coordinates_of ns k) ≡ n → is_copied (map to_array all) k ≡ true = λ k inside in_chunk.
    let at = coordinates_of ns k in
    test k ∙ subst (λ t. is_between_ends (tile_from ns ms t) (tile_to ns ms t) at ≡ true) in_chunk (tile_of-holds ns ms at tiling (in_bounds-coordinates_of ns k inside)) in
    let extent : (k : ℕ) → k < product ns → 0 < product (cut_extents cs) = λ k inside.
    second_some k c.extent (product (cut_extents cs)) (subst (λ m. k < m) (sym (ap product cuts.extents)) inside) in
    let in_part : (k : ℕ) (d : Cell) → k < end → get_or new k d ≡ get_or (take end new) k d = λ k d low. sym (get_or-take end new k d low) in
    record {
      long = omega (arith, whole, length-append old more);
      few = omega (arith, whole, few);
      there = λ k inside in_chunk. let low = before_end c cs k here (extent k inside) (inside_box k inside in_chunk) in omega (arith, low, whole, room);
      placed = λ k d inside in_chunk.
          let at = coordinates_of ns k in
          let place = in_bounds-coordinates_of ns k inside in
          let holds = inside_box k inside in_chunk in
          let low = before_end c cs k here (extent k inside) holds in
          let first_at = tile_from-tile_of ns ms at n tiling place in_chunk in
          let there : source_index (map to_array all) k ≡ index_in_tile ms at =
          source all k ∙ (λ i. index_of (cuts.lengths i) (differences (coordinates_of (cuts.extents i) k) (cuts.from i))) ∙ ap (λ qs. index_of ms (differences at qs)) first_at ∙ ap (index_of ms) (differences-firsts ns ms at tiling place) in
          in_part k d low ∙ box.copied k d (omega (arith, low, first)) holds ∙ ap (λ m. get_or chunk m d) there;
      kept = λ k d inside other.
          let at = coordinates_of ns k in
          elim (cases_lt k end) [
            | inl low ↦ elim (cases_Bool (is_copied (map to_array all) k)) [
              | inl held ↦ absurd (other (tile_of-tile_rect ns ms n at tiling below (sym (test k) ∙ held)))
              | inr out ↦ (
                  in_part k d low ∙ box.kept k d (omega (arith, low, first)) out ∙ get_or-take end grown k d low ∙ get_or_append_left old more d k inside
                  )
            ]
            | inr high ↦ (
                let back : end + (k - end) ≡ k = omega (arith, high) in
                ap (λ m. get_or new m d) (sym back)
                ∙ sym (get_or-drop end new (k - end) d)
                ∙ ap (λ (xs : List Cell). get_or xs (k - end) d) rest
                ∙ get_or-drop end grown (k - end) d
                ∙ ap (λ m. get_or grown m d) back
                ∙ get_or_append_left old more d k inside
                )
          ];
    }

-- with zeros up to that end, there are enough cells and not too many
pub cells_reached : (end most : ℕ) (old : List Cell) (zero : Cell) → length old ≤ most → end ≤ most
    → (length (old ++ replicate (end - length old) zero) ≤ most) × (end ≤ length (old ++ replicate (end - length old) zero))
cells_reached end most old zero few fits =
    let size = length-append old (replicate (end - length old) zero) in
    let more = length-replicate (end - length old) zero in
    (omega (arith, size, more, few, fits), omega (arith, size, more))

-- what a list holds whose cells were all written through a slice
pub written_back : (n : ℕ) (new old : List Cell) → length new ≡ length old → length old ≡ n → take n (new ++ drop (length new) old) ≡ new
written_back n new old same size = take_at new (drop (length new) old) n (same ∙ size)
