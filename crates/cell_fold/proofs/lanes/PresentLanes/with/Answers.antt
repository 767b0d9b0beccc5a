use Rattle.std.proofs.Common.{min, sym, ◌∙◌, arith}
use Rattle.cell_fold.specs.Lanes.{least_of_lanes}
use Rattle.cell_fold.proofs.LaneSums.{least_of_lanes-append, greatest_of_lanes-append}
use Rattle.cell_fold.proofs.lanes.PresentLanes.with.Goals as goal

pub returns-clause-value : goal.returns-clause-value
returns-clause-value c ns now =
    let eight = c.args.eight in
    record {
      least = c.smaller.ensures.least_of_lanes ∙ (λ i. min (now.least i) (least_of_lanes eight)) ∙ sym (least_of_lanes-append ns eight);
      greatest = omega (arith, c.larger.ensures, now.greatest, greatest_of_lanes-append ns eight);
      sum = c.with.ensures.value ns now.sum;
    }
