use Rattle.std.proofs.Common.{◌∙◌, sym}
use Rattle.array_text.proofs.Leading as lead
use Rattle.array_text.proofs.word.leading_empty.Goals as goal

pub returns-in_default-clause-cell : goal.returns-in_default-clause-cell
returns-in_default-clause-cell c =
    let rest = c.args.rest.now in
    let none = c.in_default.ensures.cases in
    lead.leading-empty rest (lead.first_word-none rest none) (lead.after_word-none rest none)

pub returns-then-is_blank-clause-cell : goal.returns-then-is_blank-clause-cell
returns-then-is_blank-clause-cell c =
    let rest = c.args.rest.now in
    let is = c.in-Some.ensures.cases.0 in
    let blank = sym c.is_blank.ensures ∙ c.if-is_blank.true in
    lead.leading-empty rest (lead.first_word-ends _ _ rest is blank) (lead.after_word-ends _ _ rest is blank)

pub returns-else-is_blank-clause-cell : goal.returns-else-is_blank-clause-cell
returns-else-is_blank-clause-cell c = lead.leading-point _ _ c.args.rest.now c.in-Some.ensures.cases.0 (sym c.is_blank.ensures ∙ c.if-is_blank.false)
