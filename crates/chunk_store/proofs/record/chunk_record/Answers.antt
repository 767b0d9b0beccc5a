use Rattle.std.proofs.Common.{◌∙◌, ap}
use Rattle.cells.specs.Records.{record_of}
use Rattle.chunk_store.specs.FirstChunks.{rect_numbers}
use Rattle.chunk_store.proofs.ChunkRecords.{whole_some, whole_rect, whole_inside, rect_numbers-whole, chunk_record-few}
use Rattle.layouts.specs.Chunks.{chunk_rect}
use Rattle.chunk_store.proofs.record.chunk_record.Goals as goal

pub part_record-requires-clause-some : goal.part_record-requires-clause-some
part_record-requires-clause-some c = whole_some c.args.layout.now c.args.n c.cuts-cuts.result c.rect_of-whole.result c.cuts-cuts.ensures.cuts c.rect_of-whole.ensures

pub part_record-requires-clause-inside : goal.part_record-requires-clause-inside
part_record-requires-clause-inside c =
    let layout = c.args.layout.now in let n = c.args.n in
    whole_inside c.rect_of-whole.result (chunk_rect layout n) (whole_rect layout n c.cuts-cuts.result c.rect_of-whole.result c.cuts-cuts.ensures.cuts c.rect_of-whole.ensures)

pub returns-clause-record : goal.returns-clause-record
returns-clause-record c =
    let layout = c.args.layout.now in let n = c.args.n in let chunk = c.args.chunk.now in
    let whole = whole_rect layout n c.cuts-cuts.result c.rect_of-whole.result c.cuts-cuts.ensures.cuts c.rect_of-whole.ensures in
    c.part_record.ensures.record ∙ ap (λ r. record_of (rect_numbers layout n chunk r)) whole
    ∙ ap record_of (rect_numbers-whole layout n chunk c.cuts-cuts.ensures.rules c.requires.chunk)

pub returns-clause-few : goal.returns-clause-few
returns-clause-few c = chunk_record-few c.args.layout.now c.args.n c.args.chunk.now c.part_record.result (returns-clause-record c)
