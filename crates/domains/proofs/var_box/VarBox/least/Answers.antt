use Rattle.std.proofs.Common.{arith, ap, sym, ◌∙◌, Some}
use Rattle.domains.proofs.NonemptyDomains.{first_point}
use Rattle.domains.proofs.var_box.VarBox.least.Goals as goal

pub returns-clause-first : goal.returns-clause-first
returns-clause-first c = ap Some c.lowest_of.ensures ∙ sym (first_point c.args.self.now c.vars.ensures.kept.values (omega arith))
