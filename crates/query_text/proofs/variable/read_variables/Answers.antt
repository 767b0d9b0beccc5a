use Rattle.std.proofs.Common.{◌≡◌, ◌≢◌, ◌+◌, ◌∷◌, [], ◌++◌, Ok, length, All, AllPairs, sym, ap, ◌∙◌, subst, length-append}
use Rattle.std.proofs.lemmas.List.Elements.{All-push}
use Rattle.std.proofs.lemmas.List.Quantifiers.{all_pairs_push}
use Rattle.query_model.specs.Rules.{IsVariable}
use Rattle.query_model.specs.declared.parts.Variable.{Variable}
use Rattle.serde_json.specs.View.{view}
use Rattle.query_text.specs.Walk.{walk_variable, appending}
use Rattle.query_text.proofs.ItemLoops.{fold_more, appending_ok}
use Rattle.query_text.proofs.variable.read_variables.Goals as goal

pub loop-item-preserved : goal.loop-item-preserved
loop-item-preserved c =
    let before = c.loop-item.variables.items in
    let v = c.in_ok-variable.variable in
    let i = c.loop-item.item-index in
    let invariant = c.loop-item.invariant in
    let pushed : c.push.new.self.items ≡ before ++ v ∷ [] = c.in_ok-push.ensures.items in
    let read : walk_variable before (view c.item-item.result) ≡ Ok v =
    ap (λ vs. walk_variable vs (view c.item-item.result)) (sym c.as_slice.ensures.value) ∙ sym c.in_ok-variable.ensures.walk in
    let differ = λ (v w : Variable). v.name ≢ w.name in
    let new : All (λ w. differ w v) before = subst (All (λ w. differ w v)) c.as_slice.ensures.value c.in_ok-variable.ensures.new in
    record {
      walk = fold_more (appending walk_variable) c.args.items.now i c.item-item.result before c.push.new.self.items _ c.loop-item-test.true c.item-item.is
          (appending_ok walk_variable before (view c.item-item.result) v read ∙ ap Ok (sym pushed)) invariant.walk;
      count = ap length pushed ∙ length-append before (v ∷ []) ∙ ap (λ n. n + 1) invariant.count;
      rules = subst (All IsVariable) (sym pushed) (All-push IsVariable before v invariant.rules c.in_ok-variable.ensures.rules);
      names = subst (AllPairs differ) (sym pushed) (all_pairs_push differ before v invariant.names new);
    }
