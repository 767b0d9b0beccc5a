-- Each rule is added to those before it.
use Rattle.std.proofs.Common.{◌≡◌, ◌∙◌, true, refl, sym, subst, ap₂}
use Rattle.clap.specs.Words.{App, app_of, with_rule, is_simple_and_free}
use Rattle.command_words.specs.Search.{search_app}
use Rattle.command_words.proofs.search.search_rules.Goals as goal

pub returns-clause-rules : goal.returns-clause-rules
returns-clause-rules c =
    c.in_ok-command.ensures.shape c.flag-summary.ensures.local ∙ ap₂ with_rule
    (c.in_ok-arg-6.ensures.shape c.number-strips.ensures.local ∙ ap₂ with_rule
    (c.in_ok-arg-5.ensures.shape c.number-frames.ensures.local ∙ ap₂ with_rule
    (c.in_ok-arg-4.ensures.shape c.number-validators.ensures.local ∙ ap₂ with_rule
    (c.in_ok-arg-3.ensures.shape c.number-solvers.ensures.local ∙ ap₂ with_rule
    (c.in_ok-arg-2.ensures.shape c.text-query.ensures.local ∙ ap₂ with_rule
    (c.in_ok-arg.ensures.shape c.text-array.ensures.local ∙ ap₂ with_rule c.bare.ensures c.text-array.ensures.rule)
    c.text-query.ensures.rule)
    c.number-solvers.ensures.rule)
    c.number-validators.ensures.rule)
    c.number-frames.ensures.rule)
    c.number-strips.ensures.rule)
    c.flag-summary.ensures.rule

pub returns-clause-simple : goal.returns-clause-simple
returns-clause-simple c =
    let rules : app_of c.in_ok-command.command ≡ search_app = returns-clause-rules c in
    subst (λ (a : App). is_simple_and_free a ≡ true) (sym rules) refl
