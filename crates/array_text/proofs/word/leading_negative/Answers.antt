use Rattle.std.proofs.Common.{◌∙◌, ap, Some, ℤ}
use Rattle.array_text.specs.Numbers.{stored}
use Rattle.array_text.proofs.Leading as lead
use Rattle.array_text.proofs.word.leading_negative.Goals as goal

pub returns-in_default-clause-cell : goal.returns-in_default-clause-cell
returns-in_default-clause-cell c = lead.leading-below-none c.args.rest.now c.in_default.ensures.number

pub returns-clause-cell : goal.returns-clause-cell
returns-clause-cell c =
    let found = c.in-Some.ensures in
    ap (λ (z : ℤ). Some (stored z, c.in-Some.after.now)) (lead.negated c.in-Some.n found.few)
    ∙ lead.leading-below-some c.args.rest.now c.in-Some.after.now c.in-Some.n found.number
