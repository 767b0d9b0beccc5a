use Rattle.std.proofs.Common.{subst, sym}
use Rattle.domains.specs.Splits.{no_domain}
use Rattle.domains.specs.VarBoxes.{HaveValues}
use Rattle.domains.proofs.NonemptyDomains.{values_at}
use Rattle.domains.proofs.var_box.VarBox.dom.Goals as goal

pub returns-then-v-doms-clause-some : goal.returns-then-v-doms-clause-some
returns-then-v-doms-clause-some c =
    values_at c.doms-doms.result.now c.args.v no_domain (subst HaveValues (sym c.doms-doms.ensures.domains) c.doms-doms.ensures.kept.values) c.if-v-doms.true
