use Rattle.std.proofs.Common.{rules, ◌≡◌, ◌∙◌, sym, subst, length, to_z, of_z, w32}
use Rattle.query_model.specs.declared.parts.Term.{Term}
use Rattle.query_model.specs.Rules.{IsTerm}
use Rattle.query_text.specs.Sums.{IsSum, with_term}
use Rattle.query_text.proofs.Terms.{room_for_term, sum_with_term}
use Rattle.query_text.proofs.expression.read_term.Goals as goal

pub push-requires : goal.push-requires
push-requires c =
    let t : Term = record { factor = c.args.factor; var = c.in-Some.var } in
    let term : IsTerm (length c.args.variables.now) t = record { factor = c.requires.factor; var = c.in-Some.ensures.among } in
    room_for_term (length c.args.variables.now) t c.args.sum.now c.requires.few c.requires.sum (sym c.has_term.ensures ∙ c.if-has_term.false) term

pub returns-clause-rules : goal.returns-clause-rules
returns-clause-rules c =
    let n = length c.args.variables.now in
    let t : Term = record { factor = c.args.factor; var = c.in-Some.var } in
    let term : IsTerm n t = record { factor = c.requires.factor; var = c.in-Some.ensures.among } in
    let factor : to_z w32 (of_z w32 c.args.factor) ≡ c.args.factor = search rules in
    let pushed : c.push.new.self ≡ with_term t c.args.sum.now =
    c.push.ensures ∙ (λ i. with_term (record { factor = factor i; var = c.in-Some.var }) c.args.sum.now) in
    subst (IsSum n) (sym pushed) (sum_with_term n t c.args.sum.now c.requires.sum (sym c.has_term.ensures ∙ c.if-has_term.false) term)
