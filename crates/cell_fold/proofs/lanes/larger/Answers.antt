use Rattle.std.proofs.Common.{ltb, ap, ◌∙◌, sym, w32}
use Rattle.std.proofs.lemmas.Simd.{tops_compared}
use lib.Lanes.{sel_l}
use Rattle.cell_fold.specs.Lanes.{greatest_of_lanes}
use Rattle.cell_fold.proofs.LaneSums.{sel_l-max, greatest_of_lanes-zip2}
use Rattle.cell_fold.proofs.lanes.larger.Goals as goal

pub returns : goal.returns
returns c =
    let same = c.fits-a.0 ∙ sym c.fits-b.0 in
    ap (λ ms. greatest_of_lanes (sel_l ms c.args.b c.args.a)) (tops_compared w32 ltb c.args.a c.args.b) ∙ ap greatest_of_lanes (sel_l-max c.args.a c.args.b same) ∙ greatest_of_lanes-zip2 c.args.a c.args.b same
