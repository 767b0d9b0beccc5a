use Rattle.std.proofs.Common.{rules, ◌≡◌, ◌+◌, ◌<◌, ◌∙◌, subst, arith, refl}
use Rattle.std.proofs.lemmas.Grind.{common_steps}
use Rattle.source_io.specs.Source.{StoredFile}
use Rattle.layouts.specs.Chunks.{chunk_count}
use Rattle.chunk_store.specs.Loaded.{HoldsFirstChunks}
use Rattle.chunk_store.proofs.Loops.{one_more_asked, stopped_within, all_asked}
use Rattle.chunk_store.proofs.Pieces.{asks_none}
use Rattle.chunk_store.proofs.Placed.{none_placed, all_placed, length_placed}
use Rattle.chunk_store.proofs.array.add_chunks.Goals as goal

pub loop-n-init : goal.loop-n-init
loop-n-init g c = record { within = omega arith; cells = none_placed _ _ _ c.requires.cells; room = c.requires.room; frame = c.requires.frame; faults = refl; asked = asks_none _ _ _; file = cc }

pub returns-in_err-add_chunk-clause-asked : goal.returns-in_err-add_chunk-clause-asked
returns-in_err-add_chunk-clause-asked g c =
    let below : c.loop-n.n < chunk_count c.args.layout.now = search (rules, common_steps) in
    stopped_within c.args.layout.now c.loop-n.n _ _ _ below c.loop-n.invariant.asked c.add_chunk.ensures.asked

pub loop-n-preserved : goal.loop-n-preserved
loop-n-preserved g c =
    let before = c.loop-n.invariant in
    let layout = c.args.layout.now in
    let n = c.loop-n.n in
    let one = c.add_chunk.ensures in
    record {
      within = search (rules, common_steps);
      cells = subst (λ (file : StoredFile). HoldsFirstChunks file.bytes layout (n + 1) c.add_chunk.new.cells.items) before.file c.in_ok-add_chunk.ensures.cells;
      room = one.room;
      frame = one.frame;
      faults = c.in_ok-add_chunk.ensures.no_fault ∙ before.faults;
      asked = one_more_asked layout n _ _ _ before.asked one.asked;
      file = cc;
    }

pub returns-clause-cells : goal.returns-clause-cells
returns-clause-cells g c =
    let all : c.loop-n.n ≡ chunk_count c.args.layout.now = search (rules, common_steps) in
    let told = (g.S.ByteSource.file c.args.src.now).bytes in
    let layout = c.args.layout.now in
    all_placed told layout c.loop-n.cells.items c.chunks-n-end.ensures.rules (subst (λ n. HoldsFirstChunks told layout n c.loop-n.cells.items) all c.loop-n.invariant.cells)

pub returns-clause-count : goal.returns-clause-count
returns-clause-count g c =
    let all : c.loop-n.n ≡ chunk_count c.args.layout.now = search (rules, common_steps) in
    let told = (g.S.ByteSource.file c.args.src.now).bytes in
    let layout = c.args.layout.now in
    length_placed told layout c.loop-n.cells.items c.chunks-n-end.ensures.rules (subst (λ n. HoldsFirstChunks told layout n c.loop-n.cells.items) all c.loop-n.invariant.cells)

pub returns-clause-asked : goal.returns-clause-asked
returns-clause-asked g c =
    let all : c.loop-n.n ≡ chunk_count c.args.layout.now = search (rules, common_steps) in
    all_asked c.args.layout.now c.loop-n.n _ _ all c.loop-n.invariant.asked
