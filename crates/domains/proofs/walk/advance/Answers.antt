use Rattle.std.proofs.Common.{arith, rules, ◌∙◌, ap, sym, subst, length, ◌-◌, pos, ◌<ℤ◌, ◌≤ℤ◌, ◌+ℤ◌, SFits, w32, to_z, of_z, get_or, set}
use Rattle.std.proofs.lemmas.List.{length-set}
use Rattle.std.proofs.lemmas.Int.{ints, to_z-of_z}
use Rattle.domains.specs.Splits.{no_domain}
use Rattle.domains.proofs.NextPoint.{Reset, reset_none, reset_next, reset_more, reset_all}
use Rattle.domains.proofs.walk.advance.Goals as goal

pub loop-v-init : goal.loop-v-init
loop-v-init c =
    record {
      within = omega (arith, c.vars-v.ensures.count);
      long = search rules;
      reset = subst (Reset c.args.b.now c.args.p.now c.args.p.now) (sym c.vars-v.ensures.count) (reset_none c.args.b.now c.args.p.now c.requires);
    }

pub returns-then-x-d-clause-next : goal.returns-then-x-d-clause-next
returns-then-x-d-clause-next c =
    let box = c.args.b.now in
    let w = c.loop-v.v - 1 in
    let d = get_or c.doms-doms.result.now w no_domain in
    let x = c.value-x.result in
    let x_fits : SFits w32 x = search rules in
    let hi_fits : SFits w32 d.hi = search rules in
    let test = c.if-x-d.true in
    let less : x <ℤ d.hi = grind (arith, ints, test) in
    reset_next box c.args.p.now c.loop-v.p c.loop-v.v w x d no_domain c.doms-doms.ensures.kept.values c.requires (omega (arith, c.loop-v.invariant.within)) (omega arith) c.loop-v.invariant.reset
    c.value-x.ensures (ap (λ ds. get_or ds w no_domain) c.doms-doms.ensures.domains) less (to_z w32 (of_z w32 (to_z w32 (of_z w32 x) +ℤ pos 1))) (omega (arith, ints)) c.put.new.self c.put.ensures

pub loop-v-preserved : goal.loop-v-preserved
loop-v-preserved c =
    let box = c.args.b.now in
    let w = c.loop-v.v - 1 in
    let d = get_or c.doms-doms.result.now w no_domain in
    let x = c.value-x.result in
    let x_fits : SFits w32 x = search rules in
    let hi_fits : SFits w32 d.hi = search rules in
    let lo_fits : SFits w32 d.lo = search rules in
    let test = c.if-x-d.false in
    let end : d.hi ≤ℤ x = grind (arith, ints, test) in
    let put = c.put-in-loop-v.ensures ∙ ap (set c.loop-v.p w) (to_z-of_z w32 d.lo lo_fits) in
    record {
      within = omega (arith, c.loop-v.invariant.within);
      long = ap length put ∙ length-set c.loop-v.p w d.lo ∙ c.loop-v.invariant.long;
      reset = reset_more box c.args.p.now c.loop-v.p c.loop-v.v w x d no_domain c.doms-doms.ensures.kept.values c.requires (omega (arith, c.loop-v.invariant.within)) (omega arith) c.loop-v.invariant.reset
          c.value-x.ensures (ap (λ ds. get_or ds w no_domain) c.doms-doms.ensures.domains) end c.put-in-loop-v.new.self put;
    }

pub returns-clause-next : goal.returns-clause-next
returns-clause-next c = reset_all c.args.b.now c.args.p.now c.loop-v.p c.loop-v.v (omega arith) c.loop-v.invariant.reset
