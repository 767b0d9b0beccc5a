use Rattle.std.proofs.Common.{rules, ◌≡◌, ◌∙◌, ◌*◌, ◌+◌, pos, negsuc, sym, map, filter_map, length, unwrap_or, to_z, of_z, SFits, w32, w64, arith}
use Rattle.std.proofs.lemmas.List.{length-map}
use Rattle.std.proofs.lemmas.Int.{ints, to_z-of_z}
use Rattle.cells.specs.Cells.{cell_value}
use Rattle.cell_fold.specs.Lanes.{biased, cells_of_eights, lowered, least_of_lanes}
use Rattle.lists.specs.Numbers.{sum_of, least_of, greatest_of}
use Rattle.cell_fold.proofs.LaneRecords.{greatest_of_lanes-biased, least_of_lanes-biased, sum-biased, all-present, least_of_lanes-present, cells_of_eights-long, within-present, record_of-some}
use Rattle.cell_fold.proofs.lanes.present_record.Goals as goal

pub returns-clause-record : goal.returns-clause-record
returns-clause-record c =
    let cells = cells_of_eights c.args.eights.now in
    let present = filter_map cell_value cells in
    let all = c.present_lanes-all.ensures in
    let low : c.least_of_lanes-least.result ≡ least_of_lanes (map biased cells) = c.least_of_lanes-least.ensures ∙ all.value.least in
    let some : least_of_lanes (map biased cells) ≡ 0 → ⊥ = λ e. c.if-least-eq0.false (low ∙ e) in
    let long = cells_of_eights-long c.args.eights.now c.told-eights in
    let count : 8 * length c.args.eights.now ≡ length present = sym long ∙ sym (all-present cells all.fits some) in
    let least_fits : SFits w32 c.number.result = search rules in
    let greatest_fits : SFits w32 c.number-2.result = search rules in
    let sum_fits : SFits w64 c.unbiased_sum.result = search rules in
    let high = c.greatest_of_lanes.ensures ∙ all.value.greatest in
    let total = c.total.ensures.value (map biased cells) all.value.sum (omega (arith, length-map cells biased, long, c.requires.few)) in
    let is_lowered : least_of_lanes (map lowered (map biased cells)) + 1 ≡ least_of_lanes (map biased cells) = least_of_lanes-present cells all.fits (omega (arith, long, c.requires.some)) some in
    let least : c.number.result ≡ unwrap_or (least_of present) (pos 2147483648) = omega (arith, ints, c.number.ensures, low, is_lowered, least_of_lanes-biased cells all.fits) in
    let greatest : c.number-2.result ≡ unwrap_or (greatest_of present) (negsuc 2147483647) = omega (arith, ints, c.number-2.ensures, high, greatest_of_lanes-biased cells all.fits) in
    let sum : c.unbiased_sum.result ≡ sum_of present = omega (arith, ints, c.unbiased_sum.ensures, total, count, sum-biased cells all.fits) in
    record_of-some present (to_z w32 (of_z w32 c.number.result)) (to_z w32 (of_z w32 c.number-2.result)) (to_z w64 (of_z w64 c.unbiased_sum.result)) (8 * length c.args.eights.now)
    (λ e. omega (arith, e, c.requires.some)) count
    (to_z-of_z w32 c.number.result least_fits ∙ least) (to_z-of_z w32 c.number-2.result greatest_fits ∙ greatest) (to_z-of_z w64 c.unbiased_sum.result sum_fits ∙ sum)

pub returns-clause-each : goal.returns-clause-each
returns-clause-each c =
    let cells = cells_of_eights c.args.eights.now in
    let present = filter_map cell_value cells in
    let all = c.present_lanes-all.ensures in
    let low : c.least_of_lanes-least.result ≡ least_of_lanes (map biased cells) = c.least_of_lanes-least.ensures ∙ all.value.least in
    let some : least_of_lanes (map biased cells) ≡ 0 → ⊥ = λ e. c.if-least-eq0.false (low ∙ e) in
    let long = cells_of_eights-long c.args.eights.now c.told-eights in
    let count : 8 * length c.args.eights.now ≡ length present = sym long ∙ sym (all-present cells all.fits some) in
    let sum_fits : SFits w64 c.unbiased_sum.result = search rules in
    let total = c.total.ensures.value (map biased cells) all.value.sum (omega (arith, length-map cells biased, long, c.requires.few)) in
    let sum : c.unbiased_sum.result ≡ sum_of present = omega (arith, ints, c.unbiased_sum.ensures, total, count, sum-biased cells all.fits) in
    let is = to_z-of_z w64 c.unbiased_sum.result sum_fits ∙ sum in
    let within = within-present cells all.fits in
    record { low = omega (arith, ints, within.low, is, count); high = omega (arith, ints, within.high, is, count) }
