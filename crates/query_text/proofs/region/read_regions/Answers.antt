use Rattle.std.proofs.Common.{◌≡◌, ◌≢◌, ◌+◌, ◌∷◌, [], ◌++◌, Ok, length, All, AllPairs, sym, ap, ◌∙◌, subst, length-append}
use Rattle.std.proofs.lemmas.List.Elements.{All-push}
use Rattle.std.proofs.lemmas.List.Quantifiers.{all_pairs_push}
use Rattle.query_model.specs.Rules.{IsRegion}
use Rattle.query_model.specs.declared.parts.Region.{Region}
use Rattle.serde_json.specs.View.{view}
use Rattle.query_text.specs.Walk.{walk_region, appending}
use Rattle.query_text.proofs.ItemLoops.{fold_more, appending_ok}
use Rattle.query_text.proofs.region.read_regions.Goals as goal

pub loop-item-preserved : goal.loop-item-preserved
loop-item-preserved c =
    let before = c.loop-item.regions.items in
    let r = c.in_ok-region.region in
    let i = c.loop-item.item-index in
    let rank = c.args.rank in let variables = c.args.variables.now in
    let step = walk_region rank variables in
    let invariant = c.loop-item.invariant in
    let pushed : c.push.new.self.items ≡ before ++ r ∷ [] = c.in_ok-push.ensures.items in
    let read : step before (view c.item-item.result) ≡ Ok r =
    ap (λ rs. step rs (view c.item-item.result)) (sym c.as_slice.ensures.value) ∙ sym c.in_ok-region.ensures.walk in
    let differ = λ (r s : Region). r.name ≢ s.name in
    let new : All (λ s. differ s r) before = subst (All (λ s. differ s r)) c.as_slice.ensures.value c.in_ok-region.ensures.new in
    let keeps = IsRegion rank (length variables) in
    record {
      walk = fold_more (appending step) c.args.items.now i c.item-item.result before c.push.new.self.items _ c.loop-item-test.true c.item-item.is
          (appending_ok step before (view c.item-item.result) r read ∙ ap Ok (sym pushed)) invariant.walk;
      count = ap length pushed ∙ length-append before (r ∷ []) ∙ ap (λ n. n + 1) invariant.count;
      rules = subst (All keeps) (sym pushed) (All-push keeps before r invariant.rules c.in_ok-region.ensures.rules);
      names = subst (AllPairs differ) (sym pushed) (all_pairs_push differ before r invariant.names new);
    }
