use Rattle.std.proofs.Common.{rules, ◌≡◌, ◌+◌, SFits, to_z, of_z, w32, w64, ◌+ℤ◌, ◌∙◌, sym}
use Rattle.std.specs.Int.{int_min, int_max}
use Rattle.std.proofs.lemmas.Int.{to_z-of_z}
use Rattle.cells.proofs.Records.{merged-both, merged-none_left, merged-none_right, merged-same}
use Rattle.cells.proofs.record.merge.Goals as goal

pub returns-else-b-eq0-clause-record : goal.returns-else-b-eq0-clause-record
returns-else-b-eq0-clause-record c =
    let both = merged-both c.args.a c.args.b c.if-a-eq0.false c.if-b-eq0.false in
    let a_least : SFits w32 c.args.a.least = search rules in
    let b_least : SFits w32 c.args.b.least = search rules in
    let a_greatest : SFits w32 c.args.a.greatest = search rules in
    let b_greatest : SFits w32 c.args.b.greatest = search rules in
    let a_sum : SFits w64 c.args.a.sum = search rules in
    let b_sum : SFits w64 c.args.b.sum = search rules in
    let least_fits : SFits w32 c.min.result = search rules in
    let greatest_fits : SFits w32 c.max.result = search rules in
    let total_fits : SFits w64 (c.args.a.sum +ℤ c.args.b.sum) = c.requires.sum in
    let min = simp to_z-of_z at c.min.ensures.value in
    let max = simp to_z-of_z at c.max.ensures.value in
    let least : to_z w32 (of_z w32 c.min.result) ≡ int_min c.args.a.least c.args.b.least = to_z-of_z w32 c.min.result least_fits ∙ min in
    let greatest : to_z w32 (of_z w32 c.max.result) ≡ int_max c.args.a.greatest c.args.b.greatest = to_z-of_z w32 c.max.result greatest_fits ∙ max in
    let total : to_z w64 (of_z w64 (to_z w64 (of_z w64 c.args.a.sum) +ℤ to_z w64 (of_z w64 c.args.b.sum))) ≡ c.args.a.sum +ℤ c.args.b.sum = simp to_z-of_z in
    (λ i. record { least = least i; greatest = greatest i; sum = total i; count = c.args.a.count + c.args.b.count }) ∙ sym both

pub returns-then-a-eq0-clause-meant : goal.returns-then-a-eq0-clause-meant
returns-then-a-eq0-clause-meant c xs ys all of_xs of_ys same =
    merged-same c.args.a c.args.b c.args.b xs ys all (sym (merged-none_left c.args.a c.args.b c.if-a-eq0.true)) of_xs of_ys same

pub returns-then-b-eq0-clause-meant : goal.returns-then-b-eq0-clause-meant
returns-then-b-eq0-clause-meant c xs ys all of_xs of_ys same =
    merged-same c.args.a c.args.b c.args.a xs ys all (sym (merged-none_right c.args.a c.args.b c.if-a-eq0.false c.if-b-eq0.true)) of_xs of_ys same

pub returns-else-b-eq0-clause-meant : goal.returns-else-b-eq0-clause-meant
returns-else-b-eq0-clause-meant c xs ys all of_xs of_ys same =
    merged-same c.args.a c.args.b _ xs ys all (returns-else-b-eq0-clause-record c) of_xs of_ys same
