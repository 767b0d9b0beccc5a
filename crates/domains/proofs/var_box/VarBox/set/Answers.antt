use Rattle.std.proofs.Common.{◌<◌, [], take, set, cond, arith, ap, sym, ◌∙◌, subst, SFits, w32, rules}
use Rattle.std.proofs.Math.Seq.{take-set-lt}
use Rattle.std.proofs.lemmas.Int.{ints}
use Rattle.domains.specs.Splits.{no_domain}
use Rattle.domains.specs.Values.{HasValue}
use Rattle.domains.specs.VarBoxes.{HaveValues}
use Rattle.domains.proofs.NonemptyDomains.{values_set, true-has_value}
use Rattle.domains.proofs.Padding.{length_padded, padded_set}
use Rattle.domains.proofs.var_box.VarBox.set.Goals as goal

pub invariant_of-self : goal.invariant_of-self
invariant_of-self c =
    let inside = c.self.inside in
    let d = c.args.d.now in
    let lo_fits : SFits w32 d.lo = search rules in
    let hi_fits : SFits w32 d.hi = search rules in
    let test = c.if-d.true in
    let some : HasValue d = grind (arith, ints, test) in
    let long = length_padded no_domain inside.vars inside.doms c.args.self.now c.self.invariant.0 c.self.view_is in
    let below : c.args.v < inside.vars = omega (arith, long, c.requires) in (
      padded_set no_domain inside.vars inside.doms c.args.v d below c.self.invariant.0,
      subst HaveValues (sym (take-set-lt inside.vars inside.doms c.args.v d below)) (values_set (take inside.vars inside.doms) c.args.v d c.self.invariant.1 some),
    )

pub returns-then-d : goal.returns-then-d
returns-then-d c =
    let inside = c.self.inside in
    let d = c.args.d.now in
    let lo_fits : SFits w32 d.lo = search rules in
    let hi_fits : SFits w32 d.hi = search rules in
    let test = c.if-d.true in
    let some : HasValue d = grind (arith, ints, test) in
    let long = length_padded no_domain inside.vars inside.doms c.args.self.now c.self.invariant.0 c.self.view_is in
    let below : c.args.v < inside.vars = omega (arith, long, c.requires) in
    take-set-lt inside.vars inside.doms c.args.v d below
    ∙ ap (λ items. set items c.args.v d) c.self.view_is
    ∙ ap (λ b. cond b (set c.args.self.now c.args.v d) []) (sym (true-has_value d some))
