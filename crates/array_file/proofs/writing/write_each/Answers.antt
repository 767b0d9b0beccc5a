use Rattle.std.proofs.Common.{rules, ◌∙◌, sym, ap, arith, refl}
use Rattle.std.proofs.lemmas.Result.{MatchResult-from_err}
use Rattle.lists.specs.Appending.{appended}
use Rattle.lists.proofs.Appending.{appended-nil}
use Rattle.layouts.specs.Chunks.{chunk_count}
use Rattle.array_file.proofs.Writings.{bytes_of_chunks-nil, chunks_more, chunks_all, chunks_prefix}
use Rattle.array_file.proofs.writing.write_each.Goals as goal

pub loop-n-init : goal.loop-n-init
loop-n-init g c =
    let told = g.K.Sink.written c.args.sink.now in
    record {
      long = search rules;
      written = sym (ap (appended told) (bytes_of_chunks-nil c.args.layout.now c.args.cells.now) ∙ appended-nil told);
      faults = refl;
    }

pub returns-in_err-write_cells-clause-written : goal.returns-in_err-write_cells-clause-written
returns-in_err-write_cells-clause-written g c =
    let written = g.K.Sink.written in
    MatchResult-from_err c.from_residual.result _ _ c.from_residual.ensures.0
    (λ _. chunks_prefix (written c.args.sink.now) (written c.loop-n.sink) (written c.write_cells.new.sink) c.args.layout.now c.args.cells.now c.take_chunk.new.chunk c.loop-n.n _
    c.take_chunk.ensures.taken (search rules) c.loop-n.invariant.written c.in_err-write_cells.ensures.written)

pub loop-n-preserved : goal.loop-n-preserved
loop-n-preserved g c =
    let written = g.K.Sink.written in
    record {
      long = c.take_chunk.ensures.long ∙ c.loop-n.invariant.long;
      written = chunks_more (written c.args.sink.now) (written c.loop-n.sink) (written c.write_cells.new.sink) c.args.layout.now c.args.cells.now c.take_chunk.new.chunk c.loop-n.n
          c.take_chunk.ensures.taken c.loop-n.invariant.written c.in_ok-write_cells.ensures.written;
      faults = c.in_ok-write_cells.ensures.no_fault ∙ c.loop-n.invariant.faults;
    }

pub returns-clause-written : goal.returns-clause-written
returns-clause-written g c =
    let l = c.args.layout.now in
    chunks_all (g.K.Sink.written c.args.sink.now) (g.K.Sink.written c.loop-n.sink) l c.args.cells.now c.loop-n.n (chunk_count l)
    (omega (arith, c.loop-n-test.false, c.loop-n.auto.n-end, c.chunks-n-end.ensures.count)) c.loop-n.invariant.written
