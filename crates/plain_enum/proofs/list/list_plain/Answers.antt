use Rattle.std.proofs.Common.{◌≡◌, ◌++◌, All, sym, ap, subst, ◌∙◌, length}
use Rattle.std.specs.List.{filter}
use Rattle.std.proofs.lemmas.List.Elements.{All-filter}
use Rattle.cells.specs.Cells.{array_of}
use Rattle.query_model.specs.Constraint.{is_solution}
use Rattle.query_model.specs.Answer.{answer, box_of}
use Rattle.domains.specs.Points.{Point, points_of}
use Rattle.plain_enum.proofs.Enumeration.{found-passes, found-fails, found-none_left, All-rest}
use Rattle.plain_enum.proofs.list.list_plain.Goals as goal

pub loop-p-init : goal.loop-p-init
loop-p-init c =
    let query = c.args.query.now in
    let test = is_solution (array_of query.rank c.args.shape.now.extents c.args.cells.now) query in
    let walked = c.into_iter-p-iterator.ensures.into_iter_gives ∙ c.points-p-items.ensures in
    let all = walked ∙ c.root.ensures.points in (
      tt,
      tt,
      (λ i. c.new-points.ensures.items i ++ filter test (all i)),
      subst (All (λ p. length p ≡ length query.variables)) (sym walked) c.root.ensures.values,
    )

pub loop-p-preserved-in-Continue-1 : goal.loop-p-preserved-in-Continue-1
loop-p-preserved-in-Continue-1 c =
    let query = c.args.query.now in
    let a = array_of query.rank c.args.shape.now.extents c.args.cells.now in
    let test = is_solution a query in
    let steps = c.in-Some.ensures.steps in
    let passes = sym c.holds_plain.ensures ∙ c.if-holds_plain.true in (
      tt,
      tt,
      ap (λ items. items ++ filter test c.next.new.self) c.in_ok-push.ensures.items
          ∙ found-passes test (answer a query) c.loop-p.points.items c.loop-p.p-iterator c.next.new.self c.in-Some.p steps c.loop-p.invariant.2 passes,
      All-rest (λ p. length p ≡ length query.variables) _ _ _ steps c.loop-p.invariant.3,
    )

pub loop-p-preserved : goal.loop-p-preserved
loop-p-preserved c =
    let query = c.args.query.now in
    let a = array_of query.rank c.args.shape.now.extents c.args.cells.now in
    let test = is_solution a query in
    let steps = c.in-Some.ensures.steps in
    let fails = sym c.holds_plain.ensures ∙ c.if-holds_plain.false in (
      tt,
      tt,
      found-fails test (answer a query) c.loop-p.points.items c.loop-p.p-iterator c.next.new.self c.in-Some.p steps c.loop-p.invariant.2 fails,
      All-rest (λ p. length p ≡ length query.variables) _ _ _ steps c.loop-p.invariant.3,
    )

pub returns-clause-vars : goal.returns-clause-vars
returns-clause-vars c =
    let query = c.args.query.now in
    let a = array_of query.rank c.args.shape.now.extents c.args.cells.now in
    let test = is_solution a query in
    let has_values = λ (p : Point). length p ≡ length query.variables in
    let all = found-none_left test (answer a query) c.loop-p.points.items c.loop-p.p-iterator c.in-None.ensures.steps.0 c.loop-p.invariant.2 in
    subst (All has_values) all (All-filter test has_values (points_of (box_of query)) (subst (All has_values) c.root.ensures.points c.root.ensures.values))
