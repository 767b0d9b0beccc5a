use Rattle.std.proofs.Common.{◌+◌, map, min, ap, sym, ◌∙◌, arith}
use Rattle.std.proofs.lemmas.List.{map-append}
use Rattle.std.proofs.lemmas.Simd.{zip2_splat}
use lib.Lanes.{sum_l}
use Rattle.cell_fold.specs.Lanes.{lowered, least_of_lanes}
use Rattle.cell_fold.proofs.LaneSums.{least_of_lanes-append, greatest_of_lanes-append, sum_l-append, sum_l-ones_le}
use Rattle.cell_fold.proofs.lanes.Lanes.with.Goals as goal

pub added-requires : goal.added-requires
added-requires c =
    let ones = ap sum_l (c.smaller-2.ensures.lanes ∙ zip2_splat min c.args.eight 8 1 c.fits-eight.0) in
    omega (arith, c.requires.count, sum_l-ones_le c.args.eight, c.fits-eight.0)

pub returns-clause-value : goal.returns-clause-value
returns-clause-value c ns now =
    let eight = c.args.eight in
    let ones = ap sum_l (c.smaller-2.ensures.lanes ∙ zip2_splat min eight 8 1 c.fits-eight.0) in
    record {
      least =
          c.smaller.ensures.least_of_lanes ∙ (λ i. min (now.least i) (least_of_lanes (c.lowered.ensures i))) ∙ sym (least_of_lanes-append (map lowered ns) (map lowered eight))
          ∙ ap least_of_lanes (sym (map-append lowered ns eight));
      greatest = omega (arith, c.larger.ensures, now.greatest, greatest_of_lanes-append ns eight);
      count =
          c.added.ensures ∙ (λ i. now.count i + ones i) ∙ sym (sum_l-append (map (λ n. min n 1) ns) (map (λ n. min n 1) eight))
          ∙ ap sum_l (sym (map-append (λ n. min n 1) ns eight));
      sum = c.with.ensures.value ns now.sum;
    }

pub returns-clause-count : goal.returns-clause-count
returns-clause-count c =
    let ones = ap sum_l (c.smaller-2.ensures.lanes ∙ zip2_splat min c.args.eight 8 1 c.fits-eight.0) in
    omega (arith, c.added.ensures, sum_l-ones_le c.args.eight, c.fits-eight.0)
