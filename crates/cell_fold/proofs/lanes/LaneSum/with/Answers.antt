use Rattle.std.proofs.Common.{◌+◌, map, ap, sym, ◌∙◌, arith}
use Rattle.std.proofs.lemmas.List.{map-append}
use lib.Lanes.{sum_l}
use Rattle.cell_fold.specs.Lanes.{upper_half}
use Rattle.cell_fold.proofs.LaneSums.{sum_l-append, upper_half_le}
use Rattle.cell_fold.proofs.lanes.LaneSum.with.Goals as goal

pub added-requires : goal.added-requires
added-requires c =
    let halves = ap sum_l c.upper_half.ensures in
    omega (arith, c.requires, halves, upper_half_le c.args.eight c.fits-eight.1, c.fits-eight.0)

pub returns-clause-value : goal.returns-clause-value
returns-clause-value c ns now =
    let eight = c.args.eight in
    let halves = ap sum_l c.upper_half.ensures in
    record {
      low = omega (arith, c.added_wrapping.ensures, now.low, sum_l-append ns eight);
      halves =
          c.added.ensures ∙ (λ i. now.halves i + halves i) ∙ sym (sum_l-append (map upper_half ns) (map upper_half eight))
          ∙ ap sum_l (sym (map-append upper_half ns eight));
    }

pub returns-clause-halves : goal.returns-clause-halves
returns-clause-halves c =
    let halves = ap sum_l c.upper_half.ensures in
    omega (arith, c.added.ensures, halves, upper_half_le c.args.eight c.fits-eight.1, c.fits-eight.0)
