use Rattle.std.proofs.Common.{rules, sym, ap, ◌∙◌}
use Rattle.query_model.specs.Constraint.{aggregate_compares}
use Rattle.plain_enum.proofs.Averages.{wide_product, wide_count, mean_by_record}
use Rattle.plain_enum.proofs.holds.aggregate_compares.Goals as goal

pub returns-then-some-3 : goal.returns-then-some-3
returns-then-some-3 c numbers is =
    let to = c.args.to.now in let r = c.args.r.now in
    let left = wide_product to.q r.sum (search rules) (search rules) in
    let right = wide_count to.p r.count (search rules) (search rules) in
    c.holds_of-then-some-3.ensures _ _ c.cmp-then-some-3.ensures
    ∙ mean_by_record c.args.c numbers to r _ _ is (search rules) left right
    ∙ sym (ap (λ agg. aggregate_compares agg c.args.c numbers to) c.in-Avg.is)
