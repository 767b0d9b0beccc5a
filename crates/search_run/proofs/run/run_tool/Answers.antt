use Rattle.source_io.specs.Told.{Rose}
use Rattle.search_run.specs.Verdict.{told_verdict, told_output}
use Rattle.search_run.proofs.Statuses.{status_is, whole_is, prefix_is, silent_is, quiet_is}
use Rattle.search_run.proofs.run.run_tool.Goals as goal

pub returns-clause-status : goal.returns-clause-status
returns-clause-status g c =
    status_is (told_verdict (g.F.Shelf.state c.args.shelf.now).holds c.args.words.now) c.run-ending.result c.report_ending.result c.report_ending.ensures.status c.run-ending.ensures.runs.verdict

pub returns-clause-whole : goal.returns-clause-whole
returns-clause-whole g c =
    whole_is (told_output (g.F.Shelf.state c.args.shelf.now).holds c.args.words.now) c.run-ending.result c.report_ending.result _ _ c.report_ending.ensures.status c.run-ending.ensures.output

pub returns-clause-silent : goal.returns-clause-silent
returns-clause-silent g c = silent_is _ c.run-ending.result c.report_ending.result _ _ c.report_ending.ensures.status c.run-ending.ensures.output

pub returns-clause-prefix : goal.returns-clause-prefix
returns-clause-prefix g c =
    prefix_is (told_output (g.F.Shelf.state c.args.shelf.now).holds c.args.words.now) c.run-ending.result _ _ c.run-ending.ensures.output

pub returns-clause-said : goal.returns-clause-said
returns-clause-said g c = (c.run-ending.result, c.report_ending.ensures.status, c.run-ending.ensures.runs.verdict, c.report_ending.ensures.said)

pub returns-clause-quiet : goal.returns-clause-quiet
returns-clause-quiet g c =
    quiet_is (Rose (g.E.Sink.faults c.args.err.now) (g.E.Sink.faults c.report_ending.new.err)) c.run-ending.result c.report_ending.result _ _ c.report_ending.ensures.status c.report_ending.ensures.said
