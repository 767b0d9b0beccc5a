use Rattle.std.proofs.Common.{◌≡◌, ◌+◌, ◌-◌, ◌<◌, Ok, length, take, drop, set, replicate, pos, sym, ap, ◌∙◌, arith}
use Rattle.std.proofs.lemmas.List.{take_more_set, drop-set-lt, drop-drop, drop-replicate, length-set, length-take-le}
use Rattle.std.proofs.lemmas.List.Elements.{All-set}
use Rattle.query_model.specs.Rules.{IsExpr, constant_expr}
use Rattle.serde_json.specs.View.{view}
use Rattle.query_text.specs.Locations as location
use Rattle.query_text.specs.Walk.{walk_dimension, walk_expr, appending, next_number}
use Rattle.query_text.proofs.ItemLoops.{fold_more, appending_ok}
use Rattle.query_text.proofs.region.read_each_dimension.Goals as goal

pub loop-d-preserved : goal.loop-d-preserved
loop-d-preserved c =
    let exprs = c.loop-d.exprs in
    let d = c.loop-d.d in
    let e = c.in_ok-exprs.field-0 in
    let variables = c.args.variables.now in
    let item = c.index-items-d.result in
    let invariant = c.loop-d.invariant in
    let inside : d < length exprs = omega (arith, c.loop-d-test.true, c.requires.items, invariant.count) in
    let number : next_number (take d exprs) ≡ d + 1 = ap (λ n. n + 1) (length-take-le d exprs (omega (arith, inside))) in
    let read : walk_dimension variables c.args.at (take d exprs) (view item) ≡ Ok e =
    ap (λ p. walk_expr variables p (view item)) (ap (location.dimension c.args.at) number ∙ sym c.dimension.ensures) ∙ sym c.in_ok-exprs.ensures.walk in
    let rest = constant_expr (pos c.args.rest) in
    let less : 3 - d - 1 ≡ 3 - (d + 1) = omega arith in
    record {
      walk = fold_more (appending (walk_dimension variables c.args.at)) c.args.items.now d item (take d exprs) (take (d + 1) (set exprs d e)) _ c.loop-d-test.true c.index-items-d.is
          (appending_ok (walk_dimension variables c.args.at) (take d exprs) (view item) e read ∙ ap Ok (sym (take_more_set exprs d e inside))) invariant.walk;
      count = length-set exprs d e ∙ invariant.count;
      rest = drop-set-lt (d + 1) exprs d e (omega arith) ∙ sym (drop-drop 1 d exprs) ∙ ap (drop 1) invariant.rest ∙ drop-replicate 1 (3 - d) rest ∙ ap (λ n. replicate n rest) less;
      rules = All-set (IsExpr (length variables)) exprs d e c.in_ok-exprs.ensures.rules invariant.rules;
    }
