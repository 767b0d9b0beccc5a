use Rattle.std.proofs.Common.{◌≡◌, ◌-◌, ◌^◌, min, take}
use Rattle.query_text.specs.Walk.{point_count}
use Rattle.query_text.proofs.points.point_count.Given as goal

abbrev pub invariant-loop-variable : goal.invariant-loop-variable
invariant-loop-variable l = l.points ≡ min (point_count (take l.variable-index l.variables)) (2 ^ 64 - 1)
