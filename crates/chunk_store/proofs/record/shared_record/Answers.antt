use Rattle.std.proofs.Common.{rules, ◌≡◌, ap, sym, ◌∙◌, length}
use Rattle.cells.specs.Records.{record_of}
use Rattle.cells.specs.Rects.{meet_of, area_of, HasDimensions}
use Rattle.chunk_store.specs.FirstChunks.{rect_numbers}
use Rattle.chunk_store.proofs.ChunkRecords.{whole_rect, shared_inside, rect_numbers-meet, rect_numbers-none, rect_numbers-array, some_shared}
use Rattle.layouts.specs.Chunks.{chunk_rect}
use Rattle.chunk_store.proofs.record.shared_record.Goals as goal

pub part_record-requires-clause-some : goal.part_record-requires-clause-some
part_record-requires-clause-some c = some_shared c.is_empty.result c.meet-shared.result c.if-is_empty.false c.is_empty.ensures

pub part_record-requires-clause-inside : goal.part_record-requires-clause-inside
part_record-requires-clause-inside c =
    let layout = c.args.layout.now in
    let whole = whole_rect layout c.args.n c.cuts-cuts.result c.rect_of.result c.cuts-cuts.ensures.cuts c.rect_of.ensures in
    shared_inside c.args.r.now (chunk_rect layout c.args.n) c.meet-shared.result (c.meet-shared.ensures ∙ ap (meet_of c.args.r.now) whole)

pub returns-then-is_empty-clause-record : goal.returns-then-is_empty-clause-record
returns-then-is_empty-clause-record c =
    let layout = c.args.layout.now in
    let n = c.args.n in
    let chunk = c.args.chunk.now in
    let r = c.args.r.now in
    let whole = whole_rect layout n c.cuts-cuts.result c.rect_of.result c.cuts-cuts.ensures.cuts c.rect_of.ensures in
    let shared : c.meet-shared.result ≡ meet_of r (chunk_rect layout n) = c.meet-shared.ensures ∙ ap (meet_of r) whole in
    let none : area_of c.meet-shared.result ≡ 0 = search rules in
    let is = c.cuts-cuts.ensures.rules in
    let long : HasDimensions (length layout.extents) r = (search rules ∙ sym is.extents, search rules ∙ sym is.extents) in
    ap record_of (sym (rect_numbers-none layout n chunk c.meet-shared.result none) ∙ ap (rect_numbers layout n chunk) shared
    ∙ rect_numbers-meet c.rectangles_meet.ensures.cells layout n chunk r is c.requires.chunk long)

pub returns-then-is_empty-clause-array : goal.returns-then-is_empty-clause-array
returns-then-is_empty-clause-array c = λ a of cells.
    let layout = c.args.layout.now in
    let is = c.cuts-cuts.ensures.rules in
    let long : HasDimensions (length layout.extents) c.args.r.now = (search rules ∙ sym is.extents, search rules ∙ sym is.extents) in
    returns-then-is_empty-clause-record c
    ∙ ap record_of (rect_numbers-array c.rectangles_meet.ensures.cells c.rectangles_meet.ensures.dimensions c.rectangles_are_regions.ensures layout c.args.n a c.args.chunk.now c.args.r.now is c.requires.chunk long of cells)

pub returns-else-is_empty-clause-record : goal.returns-else-is_empty-clause-record
returns-else-is_empty-clause-record c =
    let layout = c.args.layout.now in
    let n = c.args.n in
    let chunk = c.args.chunk.now in
    let r = c.args.r.now in
    let whole = whole_rect layout n c.cuts-cuts.result c.rect_of.result c.cuts-cuts.ensures.cuts c.rect_of.ensures in
    let shared : c.meet-shared.result ≡ meet_of r (chunk_rect layout n) = c.meet-shared.ensures ∙ ap (meet_of r) whole in
    let is = c.cuts-cuts.ensures.rules in
    let long : HasDimensions (length layout.extents) r = (search rules ∙ sym is.extents, search rules ∙ sym is.extents) in
    c.part_record.ensures.record ∙ ap (λ s. record_of (rect_numbers layout n chunk s)) shared
    ∙ ap record_of (rect_numbers-meet c.rectangles_meet.ensures.cells layout n chunk r is c.requires.chunk long)

pub returns-else-is_empty-clause-array : goal.returns-else-is_empty-clause-array
returns-else-is_empty-clause-array c = λ a of cells.
    let layout = c.args.layout.now in
    let is = c.cuts-cuts.ensures.rules in
    let long : HasDimensions (length layout.extents) c.args.r.now = (search rules ∙ sym is.extents, search rules ∙ sym is.extents) in
    returns-else-is_empty-clause-record c
    ∙ ap record_of (rect_numbers-array c.rectangles_meet.ensures.cells c.rectangles_meet.ensures.dimensions c.rectangles_are_regions.ensures layout c.args.n a c.args.chunk.now c.args.r.now is c.requires.chunk long of cells)
