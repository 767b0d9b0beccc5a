use Rattle.std.proofs.Common.{◌≡◌, sym, subst}
use Rattle.chunk_store.specs.Loaded.{HoldsChunk}
use Rattle.chunk_store.proofs.Summed.{one_more_summed, counts_fit, sums_fit}
use Rattle.chunk_store.proofs.summary.add_record.Goals as goal

pub merge-requires-clause-few : goal.merge-requires-clause-few
merge-requires-clause-few g c =
    counts_fit (g.S.ByteSource.file c.args.src.now).bytes c.args.layout.now c.args.n c.args.all c.chunk_record-one.result c.requires.rules c.requires.all c.chunk_record-one.ensures.few

pub merge-requires-clause-sum : goal.merge-requires-clause-sum
merge-requires-clause-sum g c =
    sums_fit (g.S.ByteSource.file c.args.src.now).bytes c.args.layout.now c.args.n c.args.all c.chunk_record-one.result c.requires.rules c.requires.all c.chunk_record-one.ensures.few c.chunk_record-one.ensures.each

pub returns-clause-all : goal.returns-clause-all
returns-clause-all g c =
    let told = (g.S.ByteSource.file c.args.src.now).bytes in
    let layout = c.args.layout.now in
    let same : c.cells.result.now ≡ c.load.new.into.cells = c.cells.ensures in
    one_more_summed told layout c.args.n c.cells.result.now c.args.all c.chunk_record-one.result c.merge.result c.requires.rules
    (subst (HoldsChunk told layout c.args.n) (sym same) c.in_ok-load.ensures.cells) c.requires.all
    c.chunk_record-one.ensures.record c.chunk_record-one.ensures.few c.chunk_record-one.ensures.each (record { meant = c.merge.ensures.meant; count = c.merge.ensures.count; each = c.merge.ensures.each })
