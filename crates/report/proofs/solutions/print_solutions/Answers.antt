use Rattle.std.proofs.Common.{subst, ap, ◌∙◌}
use Rattle.std.proofs.lemmas.Result.{MatchResult-from_err}
use Rattle.lists.specs.Appending.{appended, AppendsPrefix}
use Rattle.lists.proofs.Appending.{pieces_more, pieces_prefix}
use Rattle.query_model.specs.Text.{line_of}
use Rattle.report.proofs.solutions.print_solutions.Goals as goal

pub loop-point-preserved : goal.loop-point-preserved
loop-point-preserved g c =
    let written = g.K.Sink.written in
    let line = c.as_bytes.ensures ∙ c.solution_line-line.ensures in
    record {
      written = pieces_more (line_of c.args.query.now) c.args.points.now c.loop-point.point-index c.point-item.result c.loop-point-test.true c.point-item.is
          (written c.args.sink.now) (written c.loop-point.sink) (written c.write_whole.new.sink) c.loop-point.invariant.written
          (c.in_ok-write_whole.ensures.written ∙ ap (appended (written c.loop-point.sink)) line);
      faults = c.in_ok-write_whole.ensures.no_fault ∙ c.loop-point.invariant.faults;
    }

pub returns-in_err-write_whole-clause-written : goal.returns-in_err-write_whole-clause-written
returns-in_err-write_whole-clause-written g c =
    let written = g.K.Sink.written in
    let line = c.as_bytes.ensures ∙ c.solution_line-line.ensures in
    MatchResult-from_err c.from_residual.result _ _ c.from_residual.ensures.0
    (λ _. pieces_prefix (line_of c.args.query.now) c.args.points.now c.loop-point.point-index c.point-item.result c.loop-point-test.true c.point-item.is
    (written c.args.sink.now) (written c.loop-point.sink) (written c.write_whole.new.sink) c.loop-point.invariant.written
    (subst (λ l. AppendsPrefix (written c.loop-point.sink) l (written c.write_whole.new.sink)) line c.in_err-write_whole.ensures.written))
