use Rattle.std.proofs.Common.{rules}
use Rattle.search_run.specs.Meaning.{told_output_of}
use Rattle.search_run.specs.Problem.{listing}
use Rattle.search_run.proofs.Endings.{stop_prints_nothing, prints_whole, prints_prefix}
use Rattle.search_run.proofs.plain.list_solutions.Goals as goal

pub returns-in-Err-clause-output : goal.returns-in-Err-clause-output
returns-in-Err-clause-output g c =
    stop_prints_nothing (told_output_of (g.F.Shelf.state c.args.shelf.now).holds (listing c.args.array.now c.args.query.now)) (g.O.Sink.written c.args.out.now) c.in-Err.stop c.from.result c.from.ensures

pub returns-in-Ok-print_solutions-clause-output : goal.returns-in-Ok-print_solutions-clause-output
returns-in-Ok-print_solutions-clause-output g c =
    prints_whole (g.F.Shelf.state c.args.shelf.now).holds c.args.array.now c.args.query.now c.in-Ok.problem c.as_slice.result.now c.in-Ok-list_plain.points.items _ _ c.in-Ok.ensures.value c.as_slice.ensures.value c.in-Ok-list_plain.ensures.answer (search rules)

pub returns-clause-output : goal.returns-clause-output
returns-clause-output g c =
    prints_prefix (g.F.Shelf.state c.args.shelf.now).holds c.args.array.now c.args.query.now c.in-Ok.problem c.as_slice.result.now c.in-Ok-list_plain.points.items _ _ c.in-Ok.ensures.value c.as_slice.ensures.value c.in-Ok-list_plain.ensures.answer (search rules)
