use Rattle.std.proofs.Common.{rules, ◌≡◌, [], ◌∷◌, length, map, ap, sym, ◌∙◌, arith}
use Rattle.lists.specs.Numbers.{product}
use Rattle.cells.specs.Array.{is_proper}
use Rattle.layouts.specs.declared.cut.Cut.{Cut}
use Rattle.chunk_store.proofs.ChunkRecords.{in_chunk, parts_of, are_parts, three_parts, each_part, region-proper, lies_inside, rect_record-is}
use Rattle.chunk_store.proofs.record.part_record.Goals as goal

pub in_chunk-requires-clause-from : goal.in_chunk-requires-clause-from
in_chunk-requires-clause-from c =
    let d : Cut = record { extent = 0; length = 0; from = 0; to = 0 } in
    let r = c.args.part.now in
    let cs = c.args.cuts.now in
    let parts = are_parts c.args.layout.now c.args.n cs r c.requires.cuts (search rules) (search rules) c.requires.inside c.requires.some in
    (each_part c.args.layout.now c.args.n r cs d 0 parts (search rules) (search rules) (search rules) (omega arith)).after

pub in_chunk-requires-clause-ordered : goal.in_chunk-requires-clause-ordered
in_chunk-requires-clause-ordered c =
    let d : Cut = record { extent = 0; length = 0; from = 0; to = 0 } in
    let r = c.args.part.now in
    let cs = c.args.cuts.now in
    let parts = are_parts c.args.layout.now c.args.n cs r c.requires.cuts (search rules) (search rules) c.requires.inside c.requires.some in
    let some = (each_part c.args.layout.now c.args.n r cs d 0 parts (search rules) (search rules) (search rules) (omega arith)).some in omega (arith, some)

pub in_chunk-requires-2-clause-from : goal.in_chunk-requires-2-clause-from
in_chunk-requires-2-clause-from c =
    let d : Cut = record { extent = 0; length = 0; from = 0; to = 0 } in
    let r = c.args.part.now in
    let cs = c.args.cuts.now in
    let parts = are_parts c.args.layout.now c.args.n cs r c.requires.cuts (search rules) (search rules) c.requires.inside c.requires.some in
    (each_part c.args.layout.now c.args.n r cs d 1 parts (search rules) (search rules) (search rules) (omega arith)).after

pub in_chunk-requires-2-clause-ordered : goal.in_chunk-requires-2-clause-ordered
in_chunk-requires-2-clause-ordered c =
    let d : Cut = record { extent = 0; length = 0; from = 0; to = 0 } in
    let r = c.args.part.now in
    let cs = c.args.cuts.now in
    let parts = are_parts c.args.layout.now c.args.n cs r c.requires.cuts (search rules) (search rules) c.requires.inside c.requires.some in
    let some = (each_part c.args.layout.now c.args.n r cs d 1 parts (search rules) (search rules) (search rules) (omega arith)).some in omega (arith, some)

pub in_chunk-requires-3-clause-from : goal.in_chunk-requires-3-clause-from
in_chunk-requires-3-clause-from c =
    let d : Cut = record { extent = 0; length = 0; from = 0; to = 0 } in
    let r = c.args.part.now in
    let cs = c.args.cuts.now in
    let parts = are_parts c.args.layout.now c.args.n cs r c.requires.cuts (search rules) (search rules) c.requires.inside c.requires.some in
    (each_part c.args.layout.now c.args.n r cs d 2 parts (search rules) (search rules) (search rules) (omega arith)).after

pub in_chunk-requires-3-clause-ordered : goal.in_chunk-requires-3-clause-ordered
in_chunk-requires-3-clause-ordered c =
    let d : Cut = record { extent = 0; length = 0; from = 0; to = 0 } in
    let r = c.args.part.now in
    let cs = c.args.cuts.now in
    let parts = are_parts c.args.layout.now c.args.n cs r c.requires.cuts (search rules) (search rules) c.requires.inside c.requires.some in
    let some = (each_part c.args.layout.now c.args.n r cs d 2 parts (search rules) (search rules) (search rules) (omega arith)).some in omega (arith, some)

pub region_record-requires-clause-few : goal.region_record-requires-clause-few
region_record-requires-clause-few c =
    let size : length c.args.chunk.now ≡ product c.chunk_shape.result.extents = c.requires.long ∙ ap product (sym c.chunk_shape.ensures.extents) in
    let few = c.chunk_shape.ensures.few in omega (arith, size, few)

pub region_record-requires-clause-cells : goal.region_record-requires-clause-cells
region_record-requires-clause-cells c = c.requires.long ∙ ap product (sym c.chunk_shape.ensures.extents)

pub region_record-requires-clause-proper : goal.region_record-requires-clause-proper
region_record-requires-clause-proper c =
    let d : Cut = record { extent = 0; length = 0; from = 0; to = 0 } in
    let r = c.args.part.now in
    let cs = c.args.cuts.now in
    let parts = are_parts c.args.layout.now c.args.n cs r c.requires.cuts (search rules) (search rules) c.requires.inside c.requires.some in
    let made : c.in_chunk.result ∷ c.in_chunk-2.result ∷ c.in_chunk-3.result ∷ [] ≡ map in_chunk (parts_of cs r.from r.to) =
    (λ i. c.in_chunk.ensures i ∷ c.in_chunk-2.ensures i ∷ c.in_chunk-3.ensures i ∷ []) ∙ ap (map in_chunk) (sym (three_parts cs r.from r.to d (search rules) (search rules) (search rules))) in
    (λ i. is_proper c.chunk_shape.result.extents (made i))
    ∙ region-proper c.args.layout.now c.args.n r (parts_of cs r.from r.to) c.chunk_shape.result.extents parts c.chunk_shape.ensures.extents

pub returns-clause-record : goal.returns-clause-record
returns-clause-record c =
    let d : Cut = record { extent = 0; length = 0; from = 0; to = 0 } in
    let layout = c.args.layout.now in
    let r = c.args.part.now in
    let cs = c.args.cuts.now in
    let parts = are_parts layout c.args.n cs r c.requires.cuts (search rules) (search rules) c.requires.inside c.requires.some in
    let made : c.in_chunk.result ∷ c.in_chunk-2.result ∷ c.in_chunk-3.result ∷ [] ≡ map in_chunk (parts_of cs r.from r.to) =
    (λ i. c.in_chunk.ensures i ∷ c.in_chunk-2.ensures i ∷ c.in_chunk-3.ensures i ∷ []) ∙ ap (map in_chunk) (sym (three_parts cs r.from r.to d (search rules) (search rules) (search rules))) in
    let rules_of = c.chunk_shape.ensures.rules in
    rect_record-is layout c.args.n r (parts_of cs r.from r.to) c.chunk_shape.result.extents _ c.args.chunk.now c.region_record.result rules_of c.requires.chunk
    (lies_inside c.rectangles_meet.ensures.cells layout c.args.n r rules_of c.requires.chunk (search rules, search rules) c.requires.inside)
    parts c.requires.long c.chunk_shape.ensures.extents made c.region_record.ensures.record

pub returns-clause-few : goal.returns-clause-few
returns-clause-few c = let few = c.region_record.ensures.few in let long = c.requires.long in omega (arith, few, long)

pub returns-clause-each : goal.returns-clause-each
returns-clause-each c = c.region_record.ensures.each
