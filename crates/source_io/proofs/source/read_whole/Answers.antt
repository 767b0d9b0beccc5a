use Rattle.std.proofs.Common.{rules, arith, length-take, length-drop, ◌+◌, ◌-◌, ◌∙◌, subst, length, ℕ, Option}
use Rattle.std.proofs.lemmas.Grind.{common_steps}
use Rattle.std.proofs.lemmas.Result.{MatchResult-from_err}
use Rattle.source_io.specs.Told.{Fills}
use Rattle.source_io.specs.Asked.{AsksWhole, Gives}
use Rattle.source_io.specs.Source.{StoredFile}
use Rattle.source_io.proofs.Reading.{asks, asks_failed, asks_more, asks_one, asks_prefix, asks_whole, holds_more}
use borrow.Rule.Slice.PartMut.{mid_of}
use Rattle.source_io.proofs.source.read_whole.Goals as goal

pub loop-done-preserved : goal.loop-done-preserved
loop-done-preserved g c =
    let h = c.in_ok-done.ensures in
    let before = c.loop-done.invariant in
    let into = c.loop-done.into in
    let n = c.loop-done.done in
    let m = c.in_ok-done.field-0 in
    let k = length into - n in
    let offset = c.args.offset in
    let end = offset + length c.args.into.now in
    let filled = subst (λ (file : StoredFile). Fills file.bytes (offset + n) m (mid_of n k into) c.read_at.new.into) before.file h.bytes in
    let gives = subst (λ (step : Option ℕ). Gives step (length (mid_of n k into)) m) before.step h.gives in
    record {
      asked = asks_more _ _ _ _ offset _ _ end _ m before.asked h.asked (omega (arith, length-take {A = ℕ}, length-drop {A = ℕ})) (omega arith) (omega (arith, length-take {A = ℕ}, length-drop {A = ℕ})) gives (omega arith);
      within = search (rules, common_steps);
      held = holds_more _ offset n m k into c.read_at.new.into before.within (omega (arith, c.read_at.auto.into, length-take {A = ℕ}, length-drop {A = ℕ})) before.held filled;
      faults = h.no_fault ∙ before.faults;
      file = cc;
      step = cc;
    }

pub returns-in_err-done-clause-covers_prefix : goal.returns-in_err-done-clause-covers_prefix
returns-in_err-done-clause-covers_prefix g c =
    MatchResult-from_err c.from_residual.result _ _ c.from_residual.ensures.0
    (λ _. asks_failed _ _ _ _ _ _ _ _ c.loop-done.invariant.asked c.in_err-done.ensures.failed (omega (arith, length-take {A = ℕ}, length-drop {A = ℕ})) (omega (arith, length-take {A = ℕ}, length-drop {A = ℕ})))

pub returns-in_err-done-clause-asked : goal.returns-in_err-done-clause-asked
returns-in_err-done-clause-asked g c =
    asks (g.S.ByteSource.step c.args.src.now) _ _ _ _
    (asks_failed _ _ _ _ _ _ _ _ c.loop-done.invariant.asked c.in_err-done.ensures.failed (omega (arith, length-take {A = ℕ}, length-drop {A = ℕ})) (omega (arith, length-take {A = ℕ}, length-drop {A = ℕ})))

pub returns-clause-covers : goal.returns-clause-covers
returns-clause-covers g c = asks_whole _ _ _ _ _ _ c.loop-done.invariant.asked (omega arith)

pub returns-clause-one_read : goal.returns-clause-one_read
returns-clause-one_read g c told some =
    let asked = g.S.ByteSource.asked in
    let offset = c.args.offset in
    let n = length c.args.into.now in
    let whole = asks_whole _ _ _ _ _ _ c.loop-done.invariant.asked (omega arith) in
    asks_one _ _ offset n (subst (λ (step : Option ℕ). AsksWhole step (asked c.args.src.now) (asked c.loop-done.src) offset (offset + n)) told whole) some

pub returns-clause-asked : goal.returns-clause-asked
returns-clause-asked g c = asks (g.S.ByteSource.step c.args.src.now) _ _ _ _ (asks_prefix _ _ _ _ _ _ c.loop-done.invariant.asked (omega arith))
