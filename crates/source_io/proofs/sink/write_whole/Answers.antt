use Rattle.std.proofs.Common.{arith, ◌-◌, ◌∙◌, length, length-drop, length-take, ℕ}
use Rattle.std.proofs.lemmas.Result.{MatchResult-from_err}
use Rattle.lists.proofs.Appending.{appended_more, prefix_of_take}
use Rattle.source_io.proofs.sink.write_whole.Goals as goal

pub loop-done-preserved : goal.loop-done-preserved
loop-done-preserved g c =
    let h = c.in_ok-done.ensures in
    let piece = c.args.piece.now in
    let done = c.loop-done.done in
    let long = length piece - done in
    let written = g.K.Sink.written in
    record {
      within = omega (arith, h.count, length-drop {A = ℕ}, length-take {A = ℕ});
      written = appended_more (written c.args.sink.now) (written c.loop-done.sink) (written c.write.new.self) piece done c.in_ok-done.field-0 long
          c.loop-done.invariant.written (omega (arith, h.count, length-take {A = ℕ}, length-drop {A = ℕ})) h.written;
      faults = h.no_fault ∙ c.loop-done.invariant.faults;
    }

pub returns-in_err-done-clause-written : goal.returns-in_err-done-clause-written
returns-in_err-done-clause-written g c =
    let written = g.K.Sink.written in
    MatchResult-from_err c.from_residual.result _ _ c.from_residual.ensures.0
    (λ _. prefix_of_take (written c.args.sink.now) (written c.loop-done.sink) (written c.write.new.self) c.args.piece.now c.loop-done.done
    c.loop-done.invariant.written c.in_err-done.ensures.unchanged)
