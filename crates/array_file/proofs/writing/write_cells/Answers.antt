use Rattle.std.proofs.Common.{rules, ◌+◌, ◌-◌, sym, ap, ◌∙◌, arith, refl}
use Rattle.std.proofs.lemmas.Result.{MatchResult-from_err}
use Rattle.lists.specs.Appending.{appended}
use Rattle.lists.proofs.Appending.{appended-nil}
use Rattle.array_file.proofs.Writings.{bytes_of_cells-nil, cells_more, cells_prefix}
use Rattle.array_file.proofs.writing.write_cells.Goals as goal

pub loop-done-init : goal.loop-done-init
loop-done-init g c =
    let told = g.K.Sink.written c.args.sink.now in
    record { within = omega arith; written = sym (ap (appended told) bytes_of_cells-nil ∙ appended-nil told); faults = refl }

pub returns-in_err-write_piece-clause-written : goal.returns-in_err-write_piece-clause-written
returns-in_err-write_piece-clause-written g c =
    let written = g.K.Sink.written in
    let done = c.loop-done.done in
    MatchResult-from_err c.from_residual.result _ _ c.from_residual.ensures.0
    (λ _. cells_prefix (written c.args.sink.now) (written c.loop-done.sink) (written c.write_piece.new.sink) c.args.cells.now done (done + c.min-n.result - done)
    c.loop-done.invariant.written c.in_err-write_piece.ensures.written)

pub loop-done-preserved : goal.loop-done-preserved
loop-done-preserved g c =
    let written = g.K.Sink.written in
    let done = c.loop-done.done in
    let n = c.min-n.result in
    record {
      within = search rules;
      written = cells_more (written c.args.sink.now) (written c.loop-done.sink) (written c.write_piece.new.sink) c.args.cells.now done n (done + n - done) (omega arith)
          c.loop-done.invariant.written c.in_ok-write_piece.ensures.written;
      faults = c.in_ok-write_piece.ensures.no_fault ∙ c.loop-done.invariant.faults;
    }
