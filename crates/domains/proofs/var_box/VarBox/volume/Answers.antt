use Rattle.std.proofs.Common.{arith, rules, ◌∙◌, ap, sym, subst, length, ◌<◌, ◌^◌, ◌*◌}
use Rattle.domains.specs.Splits.{no_domain}
use Rattle.domains.specs.VarBoxes.{HaveValues, points_in}
use Rattle.domains.proofs.PointCounts.{volume_step, volume_all}
use Rattle.domains.proofs.var_box.VarBox.volume.Goals as goal

pub overflow_mul-points : goal.overflow_mul-points
overflow_mul-points c =
    let items = c.doms-d-items.result.now in
    let same = c.doms-d-items.ensures.domains in
    let size = c.from-points.ensures ∙ c.count.ensures.size in
    let step = volume_step items c.loop-d.d-index c.loop-d.points c.from-points.result no_domain (subst HaveValues (sym same) c.vars.ensures.kept.values) c.loop-d-test.true c.loop-d.invariant size in
    let most : length (points_in items) < 2 ^ 128 = subst (λ box. length (points_in box) < 2 ^ 128) (sym same) c.requires in
    let small : c.loop-d.points * c.from-points.result < 2 ^ 128 = omega (arith, step.1, most) in
    search rules

pub loop-d-preserved : goal.loop-d-preserved
loop-d-preserved c =
    let items = c.doms-d-items.result.now in
    let same = c.doms-d-items.ensures.domains in
    let size = c.from-points.ensures ∙ c.count.ensures.size in
    (volume_step items c.loop-d.d-index c.loop-d.points c.from-points.result no_domain (subst HaveValues (sym same) c.vars.ensures.kept.values) c.loop-d-test.true c.loop-d.invariant size).0

pub returns : goal.returns
returns c =
    let same = c.doms-d-items.ensures.domains in
    volume_all c.doms-d-items.result.now c.loop-d.d-index c.loop-d.points (omega (arith, ap length same)) c.loop-d-test.false c.loop-d.invariant
    ∙ ap (λ box. length (points_in box)) same
