use Rattle.std.proofs.Common.{rules, ◌≡◌, ◌*◌, ◌≤◌, ◌-◌, ◌++◌, List, [], ◌∷◌, length, get_or, take, drop, replicate, pos, map, All, ap, sym, ◌∙◌, subst, arith}
use Rattle.lists.specs.Numbers.{product}
use Rattle.layouts.specs.Cuts.{cut_extents}
use Rattle.layouts.specs.declared.cut.Cut.{Cut}
use Rattle.cells.specs.declared.cell.Cell.{Cell}
use Rattle.chunk_copies.specs.Boxes.{source_size, target_size, IsWithinBoth, CopiesBox}
use Rattle.chunk_copies.specs.Placing.{PlacesChunk}
use Rattle.chunk_copies.proofs.Placings.{to_array, within, source_fits, reached, each_reached, end_of, are_three, places_chunk, cells_reached, written_back}
use Rattle.chunk_copies.proofs.placing.place_chunk.Goals as goal

pub overflow_mul-end-2 : goal.overflow_mul-end-2
overflow_mul-end-2 c =
    let d : Cut = record { extent = 0; length = 0; from = 0; to = 0 } in
    let cuts = are_three c.args.layout.now c.args.n c.cuts.result d (search rules) c.cuts.ensures.cuts in
    let fits = end_of _ _ _ _ _ cuts in
    omega (arith, fits, c.cells-cells.ensures.few, c.cells-cells.ensures.count)

pub reach-requires : goal.reach-requires
reach-requires c =
    let d : Cut = record { extent = 0; length = 0; from = 0; to = 0 } in
    let cuts = are_three c.args.layout.now c.args.n c.cuts.result d (search rules) c.cuts.ensures.cuts in
    let fits = end_of _ _ _ _ _ cuts in
    omega (arith, fits, c.requires.room)

pub to_array-requires : goal.to_array-requires
to_array-requires c =
    let d : Cut = record { extent = 0; length = 0; from = 0; to = 0 } in
    let some = (c.cuts.ensures.cuts.each 0 d (search rules)).some in omega (arith, some)

pub to_array-requires-2 : goal.to_array-requires-2
to_array-requires-2 c =
    let d : Cut = record { extent = 0; length = 0; from = 0; to = 0 } in
    let some = (c.cuts.ensures.cuts.each 1 d (search rules)).some in omega (arith, some)

pub to_array-requires-3 : goal.to_array-requires-3
to_array-requires-3 c =
    let d : Cut = record { extent = 0; length = 0; from = 0; to = 0 } in
    let some = (c.cuts.ensures.cuts.each 2 d (search rules)).some in omega (arith, some)

pub copy_to_first-requires-clause-end : goal.copy_to_first-requires-clause-end
copy_to_first-requires-clause-end c =
    let d : Cut = record { extent = 0; length = 0; from = 0; to = 0 } in
    let cuts = are_three c.args.layout.now c.args.n c.cuts.result d (search rules) c.cuts.ensures.cuts in
    let a = get_or c.cuts.result 0 d in
    let rest = get_or c.cuts.result 1 d ∷ get_or c.cuts.result 2 d ∷ [] in
    let end = a.to * ((get_or c.cuts.result 1 d).extent * (get_or c.cuts.result 2 d).extent) in
    let zero : Cell = record { 0 = pos 0 } in
    let room = cells_reached end (product c.args.layout.now.extents) c.args.cells.now.items zero c.requires.few (end_of _ _ _ _ _ cuts) in
    let held : c.as_mut_slice.result.now ≡ c.args.cells.now.items ++ replicate (end - length c.args.cells.now.items) zero = c.as_mut_slice.ensures.value ∙ c.reach.ensures.cells in
    subst (λ (xs : List Cell). end ≤ length xs) (sym held) room.1

pub copy_to_first-requires-clause-within : goal.copy_to_first-requires-clause-within
copy_to_first-requires-clause-within c =
    let d : Cut = record { extent = 0; length = 0; from = 0; to = 0 } in
    let cuts = are_three c.args.layout.now c.args.n c.cuts.result d (search rules) c.cuts.ensures.cuts in
    let a = get_or c.cuts.result 0 d in
    let rest = get_or c.cuts.result 1 d ∷ get_or c.cuts.result 2 d ∷ [] in
    let made : c.to_array.result ∷ c.to_array-2.result ∷ c.to_array-3.result ∷ [] ≡ map to_array (reached a ∷ rest) =
    (λ i. c.to_array.ensures i ∷ c.to_array-2.ensures i ∷ c.to_array-3.ensures i ∷ []) in
    subst (All IsWithinBoth) (sym made) (within (reached a ∷ rest) (each_reached a rest cuts.each))

pub copy_to_first-requires-clause-source : goal.copy_to_first-requires-clause-source
copy_to_first-requires-clause-source c =
    let d : Cut = record { extent = 0; length = 0; from = 0; to = 0 } in
    let cuts = are_three c.args.layout.now c.args.n c.cuts.result d (search rules) c.cuts.ensures.cuts in
    let a = get_or c.cuts.result 0 d in
    let rest = get_or c.cuts.result 1 d ∷ get_or c.cuts.result 2 d ∷ [] in
    let made : c.to_array.result ∷ c.to_array-2.result ∷ c.to_array-3.result ∷ [] ≡ map to_array (reached a ∷ rest) =
    (λ i. c.to_array.ensures i ∷ c.to_array-2.ensures i ∷ c.to_array-3.ensures i ∷ []) in
    subst (λ b. source_size b ≤ length c.args.chunk.now) (sym made) (source_fits (reached a ∷ rest) _ (length c.args.chunk.now) cuts.lengths c.requires.long)

pub copy_to_first-requires-clause-target : goal.copy_to_first-requires-clause-target
copy_to_first-requires-clause-target c =
    let d : Cut = record { extent = 0; length = 0; from = 0; to = 0 } in
    let cuts = are_three c.args.layout.now c.args.n c.cuts.result d (search rules) c.cuts.ensures.cuts in
    let a = get_or c.cuts.result 0 d in
    let rest = get_or c.cuts.result 1 d ∷ get_or c.cuts.result 2 d ∷ [] in
    let made : c.to_array.result ∷ c.to_array-2.result ∷ c.to_array-3.result ∷ [] ≡ map to_array (reached a ∷ rest) =
    (λ i. c.to_array.ensures i ∷ c.to_array-2.ensures i ∷ c.to_array-3.ensures i ∷ []) in
    let end = a.to * ((get_or c.cuts.result 1 d).extent * (get_or c.cuts.result 2 d).extent) in
    let size : target_size (map to_array (reached a ∷ rest)) ≡ end = omega arith in
    subst (λ b. target_size b ≡ end) (sym made) size

pub returns-clause-placed : goal.returns-clause-placed
returns-clause-placed c =
    let d : Cut = record { extent = 0; length = 0; from = 0; to = 0 } in
    let cuts = are_three c.args.layout.now c.args.n c.cuts.result d (search rules) c.cuts.ensures.cuts in
    let a = get_or c.cuts.result 0 d in
    let rest = get_or c.cuts.result 1 d ∷ get_or c.cuts.result 2 d ∷ [] in
    let made : c.to_array.result ∷ c.to_array-2.result ∷ c.to_array-3.result ∷ [] ≡ map to_array (reached a ∷ rest) =
    (λ i. c.to_array.ensures i ∷ c.to_array-2.ensures i ∷ c.to_array-3.ensures i ∷ []) in
    let end = a.to * ((get_or c.cuts.result 1 d).extent * (get_or c.cuts.result 2 d).extent) in
    let zero : Cell = record { 0 = pos 0 } in
    let room = cells_reached end (product c.args.layout.now.extents) c.args.cells.now.items zero c.requires.few (end_of _ _ _ _ _ cuts) in
    let held : c.as_mut_slice.result.now ≡ c.args.cells.now.items ++ replicate (end - length c.args.cells.now.items) zero = c.as_mut_slice.ensures.value ∙ c.reach.ensures.cells in
    let more = replicate (end - length c.args.cells.now.items) zero in
    let grown = c.args.cells.now.items ++ more in
    let same : end ≡ a.to * product (cut_extents rest) = omega arith in
    let new = c.copy_to_first.new.target in
    let box : CopiesBox (map to_array (reached a ∷ rest)) c.args.chunk.now (take end grown) (take end new) =
    subst (λ (xs : List Cell). CopiesBox (map to_array (reached a ∷ rest)) c.args.chunk.now (take end xs) (take end new)) held
    (subst (λ b. CopiesBox b c.args.chunk.now (take end c.as_mut_slice.result.now) (take end new)) made c.copy_to_first.ensures.first) in
    let size : length c.reach.new.cells.items ≡ c.reach.new.cells.len = search rules in
    let back = written_back c.reach.new.cells.len new c.reach.new.cells.items (c.copy_to_first.ensures.long ∙ ap length c.as_mut_slice.ensures.value) size in
    subst (PlacesChunk c.args.layout.now c.args.n c.args.chunk.now c.args.cells.now.items) (sym back)
    (places_chunk c.args.layout.now c.args.n a rest c.args.chunk.now c.args.cells.now.items more new c.cuts.ensures.rules c.requires.chunk cuts room.0
    (omega (arith, room.1, same))
    (subst (λ m. CopiesBox (map to_array (reached a ∷ rest)) c.args.chunk.now (take m grown) (take m new)) same box)
    (subst (λ m. drop m new ≡ drop m grown) same (c.copy_to_first.ensures.rest ∙ ap (drop end) held))
    (c.copy_to_first.ensures.long ∙ ap length held))
