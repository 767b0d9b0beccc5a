use Rattle.std.proofs.Common.{rules, subst, ap, ◌∙◌}
use Rattle.std.proofs.lemmas.Grind.{common_steps}
use Rattle.std.proofs.lemmas.Result.{MatchResult-from_err}
use Rattle.lists.specs.Appending.{appended, AppendsPrefix}
use Rattle.report.specs.InfoText.{level_line}
use Rattle.report.proofs.InfoText.{pieces_next, pieces_cut}
use Rattle.report.proofs.info.print_levels.Goals as goal

pub loop-level-preserved : goal.loop-level-preserved
loop-level-preserved g c =
    let written = g.K.Sink.written in
    let line = c.as_bytes.ensures ∙ c.level_line-line.ensures in
    record {
      within = search (rules, common_steps);
      written = pieces_next (level_line c.args.layout.now) (written c.args.sink.now) (written c.loop-level.sink) (written c.write_whole.new.sink) c.loop-level.level c.loop-level.invariant.written
          (c.in_ok-write_whole.ensures.written ∙ ap (appended (written c.loop-level.sink)) line);
      faults = c.in_ok-write_whole.ensures.no_fault ∙ c.loop-level.invariant.faults;
    }

pub returns-in_err-write_whole-clause-written : goal.returns-in_err-write_whole-clause-written
returns-in_err-write_whole-clause-written g c =
    let written = g.K.Sink.written in
    let line = c.as_bytes.ensures ∙ c.level_line-line.ensures in
    MatchResult-from_err c.from_residual.result _ _ c.from_residual.ensures.0
    (λ _. pieces_cut (level_line c.args.layout.now) (written c.args.sink.now) (written c.loop-level.sink) (written c.write_whole.new.sink) c.loop-level.level c.args.layout.now.levels
    (search (rules, common_steps)) c.loop-level.invariant.written
    (subst (λ l. AppendsPrefix (written c.loop-level.sink) l (written c.write_whole.new.sink)) line c.in_err-write_whole.ensures.written))
