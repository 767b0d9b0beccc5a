use Rattle.std.proofs.Common.{rules, ◌≡◌, ◌∙◌, pos, negsuc, sym, map, filter_map, length, unwrap_or, to_z, of_z, SFits, w32, w64, arith}
use Rattle.std.proofs.lemmas.List.{length-map}
use Rattle.std.proofs.lemmas.Int.{ints, to_z-of_z}
use Rattle.cells.specs.Cells.{cell_value}
use Rattle.cell_fold.specs.Lanes.{biased, cells_of_eights}
use Rattle.lists.specs.Numbers.{sum_of, least_of, greatest_of}
use Rattle.cell_fold.proofs.LaneRecords.{cells_of_eights-long, greatest_of_lanes-biased, least_of_lanes-biased, least_of_lanes-some, ones-biased, sum-biased, within-present, record_of-none, record_of-some}
use Rattle.cell_fold.proofs.lanes.mixed_record.Goals as goal

pub overflow_add-least_of_lanes : goal.overflow_add-least_of_lanes
overflow_add-least_of_lanes c =
    let cells = cells_of_eights c.args.eights.now in
    let all = c.eights_lanes-all.ensures in
    let count = c.total-count.ensures ∙ all.value.count ∙ ones-biased cells all.fits in
    let some = least_of_lanes-some cells all.fits (λ e. c.if-count-eq0.false (count ∙ e)) in
    let is = c.least_of_lanes.ensures ∙ all.value.least in
    record { fits = omega (arith, some, is) }

pub returns-then-count-eq0-clause-record : goal.returns-then-count-eq0-clause-record
returns-then-count-eq0-clause-record c =
    let cells = cells_of_eights c.args.eights.now in
    let all = c.eights_lanes-all.ensures in
    let count = c.total-count.ensures ∙ all.value.count ∙ ones-biased cells all.fits in
    record_of-none (filter_map cell_value cells) (sym count ∙ c.if-count-eq0.true)

pub returns-else-count-eq0-clause-record : goal.returns-else-count-eq0-clause-record
returns-else-count-eq0-clause-record c =
    let cells = cells_of_eights c.args.eights.now in
    let present = filter_map cell_value cells in
    let all = c.eights_lanes-all.ensures in
    let count : c.total-count.result ≡ length present = c.total-count.ensures ∙ all.value.count ∙ ones-biased cells all.fits in
    let least_fits : SFits w32 c.number.result = search rules in
    let greatest_fits : SFits w32 c.number-else-count-eq0.result = search rules in
    let sum_fits : SFits w64 c.unbiased_sum.result = search rules in
    let low = c.least_of_lanes.ensures ∙ all.value.least in
    let high = c.greatest_of_lanes.ensures ∙ all.value.greatest in
    let total = c.total.ensures.value (map biased cells) all.value.sum (omega (arith, length-map cells biased, cells_of_eights-long c.args.eights.now c.told-eights, c.requires)) in
    let least : c.number.result ≡ unwrap_or (least_of present) (pos 2147483648) = omega (arith, ints, c.number.ensures, low, least_of_lanes-biased cells all.fits) in
    let greatest : c.number-else-count-eq0.result ≡ unwrap_or (greatest_of present) (negsuc 2147483647) = omega (arith, ints, c.number-else-count-eq0.ensures, high, greatest_of_lanes-biased cells all.fits) in
    let sum : c.unbiased_sum.result ≡ sum_of present = omega (arith, ints, c.unbiased_sum.ensures, total, count, sum-biased cells all.fits) in
    record_of-some present (to_z w32 (of_z w32 c.number.result)) (to_z w32 (of_z w32 c.number-else-count-eq0.result)) (to_z w64 (of_z w64 c.unbiased_sum.result)) c.total-count.result c.if-count-eq0.false count
    (to_z-of_z w32 c.number.result least_fits ∙ least) (to_z-of_z w32 c.number-else-count-eq0.result greatest_fits ∙ greatest) (to_z-of_z w64 c.unbiased_sum.result sum_fits ∙ sum)

pub returns-else-count-eq0-clause-each : goal.returns-else-count-eq0-clause-each
returns-else-count-eq0-clause-each c =
    let cells = cells_of_eights c.args.eights.now in
    let present = filter_map cell_value cells in
    let all = c.eights_lanes-all.ensures in
    let count : c.total-count.result ≡ length present = c.total-count.ensures ∙ all.value.count ∙ ones-biased cells all.fits in
    let sum_fits : SFits w64 c.unbiased_sum.result = search rules in
    let total = c.total.ensures.value (map biased cells) all.value.sum (omega (arith, length-map cells biased, cells_of_eights-long c.args.eights.now c.told-eights, c.requires)) in
    let sum : c.unbiased_sum.result ≡ sum_of present = omega (arith, ints, c.unbiased_sum.ensures, total, count, sum-biased cells all.fits) in
    let is = to_z-of_z w64 c.unbiased_sum.result sum_fits ∙ sum in
    let within = within-present cells all.fits in
    record { low = omega (arith, ints, within.low, is, count); high = omega (arith, ints, within.high, is, count) }
