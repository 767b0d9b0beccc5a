use Rattle.std.proofs.Common.{ltb, ap, ◌∙◌, sym, w32}
use Rattle.std.proofs.lemmas.Simd.{tops_compared}
use lib.Lanes.{sel_l}
use Rattle.cell_fold.specs.Lanes.{least_of_lanes}
use Rattle.cell_fold.proofs.LaneSums.{sel_l-min, least_of_lanes-zip2}
use Rattle.cell_fold.proofs.lanes.smaller.Goals as goal

pub returns-clause-lanes : goal.returns-clause-lanes
returns-clause-lanes c = ap (λ ms. sel_l ms c.args.a c.args.b) (tops_compared w32 ltb c.args.a c.args.b) ∙ sel_l-min c.args.a c.args.b (c.fits-a.0 ∙ sym c.fits-b.0)

pub returns-clause-least_of_lanes : goal.returns-clause-least_of_lanes
returns-clause-least_of_lanes c =
    let same = c.fits-a.0 ∙ sym c.fits-b.0 in
    ap (λ ms. least_of_lanes (sel_l ms c.args.a c.args.b)) (tops_compared w32 ltb c.args.a c.args.b) ∙ ap least_of_lanes (sel_l-min c.args.a c.args.b same) ∙ least_of_lanes-zip2 c.args.a c.args.b same
