use Rattle.std.proofs.lemmas.Result.{MatchResult-from_err}
use Rattle.array_file.proofs.Writings.{array_after_header, array_prefix}
use Rattle.array_file.proofs.writing.write_array.Goals as goal

pub returns-in_err-write_whole-clause-written : goal.returns-in_err-write_whole-clause-written
returns-in_err-write_whole-clause-written g c =
    let written = g.K.Sink.written in
    MatchResult-from_err c.from_residual.result _ _ c.from_residual.ensures.0
    (λ _. array_prefix (written c.args.sink.now) (written c.write_whole.new.sink) c.write_layout.new.into c.args.layout.now c.args.cells.now c.write_layout.ensures
    c.in_err-write_whole.ensures.written)

pub returns-clause-written : goal.returns-clause-written
returns-clause-written g c =
    let written = g.K.Sink.written in
    array_after_header c.write_chunks.result (written c.args.sink.now) (written c.write_whole.new.sink) (written c.write_chunks.new.sink) c.write_layout.new.into c.args.layout.now c.args.cells.now
    c.write_layout.ensures c.in_ok-write_whole.ensures.written c.write_chunks.ensures.written
