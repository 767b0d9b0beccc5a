use Rattle.std.proofs.Common.{◌≡◌, ◌≤◌, ◌∙◌, ap, sym, arith, length, Some}
use Rattle.array_text.specs.Numbers.{number_up_to}
use Rattle.array_text.specs.Words.{first_word}
use Rattle.array_text.proofs.FirstWords.{take-rest}
use Rattle.array_text.proofs.Leading as lead
use Rattle.array_text.proofs.word.leading_number.Goals as goal

pub returns-in_default-clause-number : goal.returns-in_default-clause-number
returns-in_default-clause-number c =
    let bytes = c.args.bytes.now in
    lead.leading-none (number_up_to c.args.most) bytes (lead.number_up_to-other c.args.most (first_word bytes) c.in_default.ensures.digits)

pub returns-then-count-eq0-clause-number : goal.returns-then-count-eq0-clause-number
returns-then-count-eq0-clause-number c =
    let bytes = c.args.bytes.now in
    let none : length (first_word bytes) ≡ 0 = omega (arith, c.in-Some.ensures.count, c.if-count-eq0.true) in
    lead.leading-none (number_up_to c.args.most) bytes (lead.number_up_to-none c.args.most (first_word bytes) none)

pub returns-then-value-from-clause-number : goal.returns-then-value-from-clause-number
returns-then-value-from-clause-number c =
    let bytes = c.args.bytes.now in
    let found = c.in-Some.ensures in
    let some : 1 ≤ length (first_word bytes) = omega (arith, found.count, c.if-count-eq0.false) in
    let few : length (first_word bytes) ≤ 10 = omega (arith, found.count, found.few) in
    lead.leading-none (number_up_to c.args.most) bytes
    (lead.number_up_to-above c.args.most (first_word bytes) c.in-Some.value some few found.digits (omega (arith, c.from.ensures, c.if-value-from.true)))

pub returns-clause-number : goal.returns-clause-number
returns-clause-number c =
    let bytes = c.args.bytes.now in
    let found = c.in-Some.ensures in
    let some : 1 ≤ length (first_word bytes) = omega (arith, found.count, c.if-count-eq0.false) in
    let few : length (first_word bytes) ≤ 10 = omega (arith, found.count, found.few) in
    ap (λ after. Some (c.in-Some.value, after)) (take-rest bytes c.in-Some.count ∙ sym found.after)
    ∙ lead.leading-some (number_up_to c.args.most) bytes c.in-Some.value
    (lead.number_up_to-some c.args.most (first_word bytes) c.in-Some.value some few found.digits (omega (arith, c.from.ensures, c.if-value-from.false)))
