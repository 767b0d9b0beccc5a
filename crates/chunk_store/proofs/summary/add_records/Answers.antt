use Rattle.std.proofs.Common.{rules, ◌≡◌, ◌+◌, ◌<◌, ◌∙◌, sym, subst, arith, refl}
use Rattle.std.proofs.lemmas.Grind.{common_steps}
use Rattle.source_io.specs.Source.{StoredFile}
use Rattle.layouts.specs.Chunks.{chunk_count}
use Rattle.chunk_store.specs.Summaries.{SumsFirst}
use Rattle.chunk_store.proofs.Loops.{one_more_asked, stopped_within, all_asked}
use Rattle.chunk_store.proofs.Pieces.{asks_none}
use Rattle.chunk_store.proofs.Summed.{none_summed, all_summed, count_summed, array_summed}
use Rattle.chunk_store.proofs.summary.add_records.Goals as goal

pub loop-n-init : goal.loop-n-init
loop-n-init g c = record { within = omega arith; all = none_summed _ _; frame = c.requires.frame; faults = refl; asked = asks_none _ _ _; file = cc }

pub add_record-requires-clause-all : goal.add_record-requires-clause-all
add_record-requires-clause-all g c =
    subst (λ (file : StoredFile). SumsFirst file.bytes c.args.layout.now c.loop-n.n c.loop-n.all) (sym c.loop-n.invariant.file) c.loop-n.invariant.all

pub returns-in_err-all-clause-asked : goal.returns-in_err-all-clause-asked
returns-in_err-all-clause-asked g c =
    let below : c.loop-n.n < chunk_count c.args.layout.now = search (rules, common_steps) in
    stopped_within c.args.layout.now c.loop-n.n _ _ _ below c.loop-n.invariant.asked c.add_record.ensures.asked

pub loop-n-preserved : goal.loop-n-preserved
loop-n-preserved g c =
    let before = c.loop-n.invariant in
    let layout = c.args.layout.now in
    let n = c.loop-n.n in
    let one = c.add_record.ensures in
    record {
      within = search (rules, common_steps);
      all = subst (λ (file : StoredFile). SumsFirst file.bytes layout (n + 1) c.in_ok-all.all) before.file c.in_ok-all.ensures.all;
      frame = one.frame;
      faults = c.in_ok-all.ensures.no_fault ∙ before.faults;
      asked = one_more_asked layout n _ _ _ before.asked one.asked;
      file = cc;
    }

pub returns-clause-record : goal.returns-clause-record
returns-clause-record g c =
    let all : c.loop-n.n ≡ chunk_count c.args.layout.now = search (rules, common_steps) in
    all_summed (g.S.ByteSource.file c.args.src.now).bytes c.args.layout.now c.loop-n.n c.loop-n.all c.chunks-n-end.ensures.rules all c.loop-n.invariant.all

pub returns-clause-array : goal.returns-clause-array
returns-clause-array g c =
    let all : c.loop-n.n ≡ chunk_count c.args.layout.now = search (rules, common_steps) in
    array_summed (g.S.ByteSource.file c.args.src.now).bytes c.args.layout.now c.loop-n.all
    (all_summed (g.S.ByteSource.file c.args.src.now).bytes c.args.layout.now c.loop-n.n c.loop-n.all c.chunks-n-end.ensures.rules all c.loop-n.invariant.all)

pub returns-clause-count : goal.returns-clause-count
returns-clause-count g c = count_summed (g.S.ByteSource.file c.args.src.now).bytes c.args.layout.now c.loop-n.n c.loop-n.all c.loop-n.invariant.all

pub returns-clause-asked : goal.returns-clause-asked
returns-clause-asked g c =
    let all : c.loop-n.n ≡ chunk_count c.args.layout.now = search (rules, common_steps) in
    all_asked c.args.layout.now c.loop-n.n _ _ all c.loop-n.invariant.asked
