use Rattle.std.proofs.Common.{◌++◌, subst, sym, ap, ◌∙◌}
use Rattle.std.proofs.lemmas.Result.{MatchResult-from_err}
use Rattle.lists.specs.Appending.{appended, AppendsPrefix}
use Rattle.source_io.specs.Written.{Writes}
use Rattle.lists.proofs.Appending.{prefix_after, prefix_within}
use Rattle.report.specs.InfoText.{shape_lines, level_lines, cells_line}
use Rattle.report.proofs.InfoText.{writes_after, info_text-parts}
use Rattle.report.proofs.info.print_info.Goals as goal

pub returns-in_err-write_whole-clause-written : goal.returns-in_err-write_whole-clause-written
returns-in_err-write_whole-clause-written g c =
    let written = g.K.Sink.written in
    let layout = c.args.layout.now in
    let shape = c.as_bytes.ensures ∙ c.shape_lines.ensures in
    MatchResult-from_err c.from_residual.result _ _ c.from_residual.ensures.0
    (λ _. subst (λ text. AppendsPrefix (written c.args.sink.now) text (written c.write_whole.new.sink)) (sym (info_text-parts layout c.args.cells)) (prefix_within (written c.args.sink.now) (written c.write_whole.new.sink) (shape_lines layout) (level_lines layout ++ cells_line layout c.args.cells)
    (subst (λ text. AppendsPrefix (written c.args.sink.now) text (written c.write_whole.new.sink)) shape c.in_err-write_whole.ensures.written)))

pub returns-in_err-print_levels-clause-written : goal.returns-in_err-print_levels-clause-written
returns-in_err-print_levels-clause-written g c =
    let written = g.K.Sink.written in
    let layout = c.args.layout.now in
    let shape = c.as_bytes.ensures ∙ c.shape_lines.ensures in
    MatchResult-from_err c.from_residual-in_err-print_levels.result _ _ c.from_residual-in_err-print_levels.ensures.0
    (λ _. subst (λ text. AppendsPrefix (written c.args.sink.now) text (written c.print_levels.new.sink)) (sym (info_text-parts layout c.args.cells)) (prefix_after (written c.args.sink.now) (written c.write_whole.new.sink) (written c.print_levels.new.sink) (shape_lines layout) (level_lines layout ++ cells_line layout c.args.cells)
    (c.in_ok-write_whole.ensures.written ∙ ap (appended (written c.args.sink.now)) shape)
    (prefix_within (written c.write_whole.new.sink) (written c.print_levels.new.sink) (level_lines layout) (cells_line layout c.args.cells) c.in_err-print_levels.ensures.written)))

pub returns-clause-written : goal.returns-clause-written
returns-clause-written g c =
    let written = g.K.Sink.written in
    let layout = c.args.layout.now in
    let shape = c.as_bytes.ensures ∙ c.shape_lines.ensures in
    let last = c.as_bytes-2.ensures ∙ c.cells_line.ensures in
    subst (λ text. Writes c.write_whole-2.result text (written c.args.sink.now) (written c.write_whole-2.new.sink)) (sym (info_text-parts layout c.args.cells)) (writes_after c.write_whole-2.result (written c.args.sink.now) (written c.write_whole.new.sink) (written c.write_whole-2.new.sink) (shape_lines layout) (level_lines layout ++ cells_line layout c.args.cells)
    (c.in_ok-write_whole.ensures.written ∙ ap (appended (written c.args.sink.now)) shape)
    (writes_after c.write_whole-2.result (written c.write_whole.new.sink) (written c.print_levels.new.sink) (written c.write_whole-2.new.sink) (level_lines layout) (cells_line layout c.args.cells)
    c.in_ok-print_levels.ensures.written
    (subst (λ text. Writes c.write_whole-2.result text (written c.print_levels.new.sink) (written c.write_whole-2.new.sink)) last c.write_whole-2.ensures.written)))
