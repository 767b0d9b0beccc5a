use Rattle.std.proofs.Common.{[], ◌∷◌, ◌∙◌, pos, map, sym, ap, subst, SFits, w32}
use lib.Lanes.{Each1}
use Rattle.cell_fold.specs.Lanes.{biased}
use Rattle.cells.specs.declared.cell.Cell.{Cell}
use Rattle.cell_fold.proofs.LaneRecords.{eight_items}
use Rattle.cell_fold.proofs.lanes.biased_of.Goals as goal

pub returns-clause-value : goal.returns-clause-value
returns-clause-value c =
    let d : Cell = record { 0 = pos 0 } in
    (λ i. c.biased.ensures.value i ∷ c.biased-2.ensures.value i ∷ c.biased-3.ensures.value i ∷ c.biased-4.ensures.value i ∷ c.biased-5.ensures.value i ∷ c.biased-6.ensures.value i ∷ c.biased-7.ensures.value i ∷ c.biased-8.ensures.value i ∷ [])
    ∙ ap (map biased) (sym (eight_items c.args.cells.now d c.told-cells))

pub returns-clause-fits : goal.returns-clause-fits
returns-clause-fits c =
    let d : Cell = record { 0 = pos 0 } in
    subst (λ cells. Each1 (λ c. SFits w32 c.0) cells) (sym (eight_items c.args.cells.now d c.told-cells))
    (c.biased.ensures.fits, (c.biased-2.ensures.fits, (c.biased-3.ensures.fits, (c.biased-4.ensures.fits, (c.biased-5.ensures.fits, (c.biased-6.ensures.fits, (c.biased-7.ensures.fits, (c.biased-8.ensures.fits, tt))))))))
