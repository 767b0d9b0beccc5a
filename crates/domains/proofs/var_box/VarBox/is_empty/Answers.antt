use Rattle.domains.proofs.NonemptyDomains.{no_vars}
use Rattle.domains.proofs.var_box.VarBox.is_empty.Goals as goal

pub returns-clause-points : goal.returns-clause-points
returns-clause-points c = (no_vars c.self.inside.vars c.self.inside.doms c.args.self.now c.self.invariant c.self.view_is).0

pub returns-clause-domains : goal.returns-clause-domains
returns-clause-domains c = (no_vars c.self.inside.vars c.self.inside.doms c.args.self.now c.self.invariant c.self.view_is).1
