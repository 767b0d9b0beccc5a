use Rattle.std.proofs.Common.{◌≤◌, ◌*◌, ◌-◌, ◌^◌, map, take, FitsSigned, w32}
use lib.Lanes.{sum_l, Each1}
use Rattle.cell_fold.specs.Lanes.{biased, cells_of_eights, SumsUp}
use Rattle.cell_fold.proofs.lanes.eights_lanes.Given as goal

abbrev pub invariant-loop-eight : goal.invariant-loop-eight
invariant-loop-eight l = record {
  value : SumsUp l.all (map biased (cells_of_eights (take l.eight-index l.eights)));
  fits : Each1 (λ c. FitsSigned w32 c.0) (cells_of_eights (take l.eight-index l.eights));
  count : sum_l l.all.count ≤ 8 * l.eight-index;
  halves : sum_l l.all.sum.halves ≤ 8 * (2 ^ 16 - 1) * l.eight-index;
}
