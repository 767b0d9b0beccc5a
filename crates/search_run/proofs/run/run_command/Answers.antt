use Rattle.std.proofs.Common.{sym, subst}
use Rattle.command_words.specs.Commands.{command_of}
use Rattle.search_run.specs.Meaning.{told_output_of}
use Rattle.search_run.specs.Meanings.{done_for, meaning}
use Rattle.search_run.specs.Ends.{Prints}
use Rattle.search_run.proofs.Packing.{prints_no_text}
use Rattle.search_run.proofs.run.run_command.Goals as goal

pub returns-in-Pack-clause-output : goal.returns-in-Pack-clause-output
returns-in-Pack-clause-output g c =
    let held = (g.F.Shelf.state c.args.shelf.now).holds in
    let written = g.O.Sink.written c.args.out.now in
    subst (λ command. Prints c.pack.result (told_output_of held (done_for (meaning (command_of command)))) written written) (sym c.in-Pack.is) (prints_no_text held c.pack.result written)
