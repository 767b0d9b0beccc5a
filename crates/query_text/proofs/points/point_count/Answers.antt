use Rattle.std.proofs.Common.{◌-◌, ◌^◌, ap, ◌∙◌}
use Rattle.domains.specs.Values.{size_of}
use Rattle.query_text.proofs.PointCounts.{point_count_more}
use Rattle.query_text.proofs.points.point_count.Goals as goal

pub loop-variable-preserved : goal.loop-variable-preserved
loop-variable-preserved c =
    point_count_more c.args.variables.now c.loop-variable.variable-index _ c.loop-variable.points c.count.result c.saturating_mul-points.result (2 ^ 64 - 1) c.loop-variable-test.true
    (c.count.ensures.size ∙ ap size_of c.domain.ensures) c.saturating_mul-points.ensures c.loop-variable.invariant
