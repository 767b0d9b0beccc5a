use Rattle.search_run.specs.Meaning.{told_output_of}
use Rattle.search_run.specs.Info.{describing}
use Rattle.search_run.proofs.Endings.{stop_prints_nothing}
use Rattle.search_run.proofs.info.info.Goals as goal

pub returns-in-Err-clause-output : goal.returns-in-Err-clause-output
returns-in-Err-clause-output g c =
    stop_prints_nothing (told_output_of (g.F.Shelf.state c.args.shelf.now).holds (describing c.args.array.now)) (g.O.Sink.written c.args.out.now) c.in-Err.stop c.from.result c.from.ensures
