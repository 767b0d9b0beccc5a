use Rattle.chunk_store.proofs.FirstChunks.{record-chunks, numbers-none, record-more, numbers-all, numbers-cells}
use Rattle.chunk_store.proofs.laws.records_of_chunks_make_the_array.Goals as goal

pub returns : goal.returns
returns c =
    let both = c.record_of_both_is_merged.ensures in
    let same = c.record_of_by_weighings.ensures in
    record { whole = record-chunks both same; none = numbers-none; next = record-more both same; all = numbers-all; cells = numbers-cells }
