use Rattle.std.proofs.Common.{◌∙◌, nat_lt}
use Rattle.domains.specs.VarBoxes.{points_left}
use Rattle.domains.proofs.NonemptyDomains.{points_start}
use Rattle.domains.proofs.var_box.VarBox.points.Goals as goal

pub returns : goal.returns
returns c =
    (λ i. points_left c.args.self.now (c.lowest_of.ensures i) (nat_lt 0 (c.vars.ensures.count i)))
    ∙ points_start c.args.self.now c.vars.ensures.kept.values
