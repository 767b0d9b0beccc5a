use Rattle.std.proofs.Common.{pos, arith, take, length-take, to_z, w64}
use Rattle.query_model.specs.declared.parts.Term.{Term}
use Rattle.query_model.specs.Value.{term_value}
use Rattle.query_model.proofs.Terms.{term_step}
use Rattle.query_model.proofs.parts.Expr.value.Goals as goal

pub loop-t-preserved : goal.loop-t-preserved
loop-t-preserved c =
    let e = c.args.self.now in
    let before = c.loop-t.invariant in
    let term = c.value-total.ensures in
    let step = term_step (term_value c.args.p.now) (take e.count e.terms) c.loop-t.t-index (record { factor = pos 0; var = 0 }) (to_z w64 c.loop-t.total-bits) e.constant c.value-total.result
    c.loop-t-test.true (omega (arith, length-take {A = Term}, c.requires.count)) term.value before.total c.requires.constant before.within term.within in
    record { total = step.0; within = step.1 }
