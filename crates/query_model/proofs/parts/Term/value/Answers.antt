use Rattle.std.proofs.Common.{rules, SFits, w32}
use Rattle.query_model.proofs.Terms.{term_within}
use Rattle.query_model.proofs.parts.Term.value.Goals as goal

pub returns-clause-within : goal.returns-clause-within
returns-clause-within c =
    let factor : SFits w32 c.args.self.now.factor = search rules in
    let value : SFits w32 c.value.result = search rules in
    term_within c.args.self.now.factor c.value.result factor value c.requires.factor
