use Rattle.std.proofs.Common.{◌∙◌}
use Rattle.array_text.proofs.Leading as lead
use Rattle.array_text.proofs.word.leading_cell.Goals as goal

pub returns-in_default-clause-cell : goal.returns-in_default-clause-cell
returns-in_default-clause-cell c = lead.leading-nothing c.args.bytes.now c.in_default.ensures.cases

pub returns-else-first-eq45-clause-cell : goal.returns-else-first-eq45-clause-cell
returns-else-first-eq45-clause-cell c =
    c.leading_positive.ensures.cell ∙ lead.leading-positive _ _ c.args.bytes.now c.in-Some.ensures.cases.0 c.if-first-eq46.false c.if-first-eq45.false
