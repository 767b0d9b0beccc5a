use Rattle.std.proofs.Common.{rules, ◌≡◌, pos, negsuc, ◌+◌, ◌*◌, ◌^◌, ◌+ℤ◌, ◌≤ℤ◌, [], ◌++◌, take, length, SFits, to_z, of_z, w32, w64, ◌∙◌, sym, ap, subst, arith, length-append, filter_map, unwrap_or, is_some}
use mir.Val.{bool_byte}
use Rattle.std.specs.Int.{int_min, int_max}
use Rattle.std.specs.List.{cons_option}
use Rattle.std.proofs.lemmas.Int.{to_z-of_z}
use Rattle.cells.specs.Cells.{cell_value}
use Rattle.lists.specs.Numbers.{sum_of, least_of, greatest_of, IsWithin}
use Rattle.cell_fold.proofs.Steps.{bool_byte_le, length-cons_option, filter_map-take_more, sum_of-more}
use Rattle.lists.proofs.Folds.{least_of-more, greatest_of-more}
use Rattle.lists.proofs.Sums.{most_of_32_bits, fewest_of_32_bits}
use Rattle.cell_fold.proofs.scalar.fold.Goals as goal

pub loop-c-preserved : goal.loop-c-preserved
loop-c-preserved c =
    let now = c.loop-c.invariant in
    let i = c.loop-c.c-index in
    let o = c.value-value.result in
    let present = filter_map cell_value (take i c.args.cells.now) in
    let more : filter_map cell_value (take (i + 1) c.args.cells.now) ≡ present ++ cons_option o [] =
    filter_map-take_more cell_value c.args.cells.now i (record { 0 = pos 0 }) c.loop-c-test.true ∙ ap (λ z. present ++ cons_option z []) (sym c.value-value.ensures) in
    let least_fits : SFits w32 c.min-least.result = search rules in
    let least_was : SFits w32 (to_z w32 c.loop-c.least-bits) = search rules in
    let greatest_was : SFits w32 (to_z w32 c.loop-c.greatest-bits) = search rules in
    let low_fits : SFits w32 c.unwrap_or.result = search rules in
    let low : int_min (to_z w32 c.loop-c.least-bits) (to_z w32 (of_z w32 c.unwrap_or.result)) ≡ int_min (unwrap_or (least_of present) (pos 2147483647)) (unwrap_or o (pos 2147483647)) =
    (λ k. int_min (now.least k) ((to_z-of_z w32 c.unwrap_or.result low_fits ∙ c.unwrap_or.ensures) k)) in
    let greatest_fits : SFits w32 c.max-greatest.result = search rules in
    let high_fits : SFits w32 c.unwrap_or-in-loop-c.result = search rules in
    let high : int_max (to_z w32 c.loop-c.greatest-bits) (to_z w32 (of_z w32 c.unwrap_or-in-loop-c.result)) ≡ int_max (unwrap_or (greatest_of present) (negsuc 2147483647)) (unwrap_or o (negsuc 2147483647)) =
    (λ k. int_max (now.greatest k) ((to_z-of_z w32 c.unwrap_or-in-loop-c.result high_fits ∙ c.unwrap_or-in-loop-c.ensures) k)) in
    let x_fits : SFits w32 c.unwrap_or-in-loop-c-2.result = search rules in
    let added = sum_of-more present o (to_z w64 c.loop-c.sum-bits) c.unwrap_or-in-loop-c-2.result c.loop-c.count c.unwrap_or-in-loop-c-2.ensures x_fits now.sum now.within (omega (arith, now.few, c.loop-c-test.true, c.requires)) in
    let one : bool_byte c.is_some.result ≡ bool_byte (is_some o) = ap bool_byte c.is_some.ensures in
    record {
      least =
          to_z-of_z w32 c.min-least.result least_fits ∙ c.min-least.ensures.value ∙ low
          ∙ sym (least_of-more present o (pos 2147483647) (subst (λ z. z ≤ℤ pos 2147483647) now.least (most_of_32_bits (to_z w32 c.loop-c.least-bits) least_was)) (subst (λ z. z ≤ℤ pos 2147483647) c.unwrap_or.ensures (most_of_32_bits c.unwrap_or.result low_fits)))
          ∙ ap (λ l. unwrap_or (least_of l) (pos 2147483647)) (sym more);
      greatest =
          to_z-of_z w32 c.max-greatest.result greatest_fits ∙ c.max-greatest.ensures.value ∙ high
          ∙ sym (greatest_of-more present o (negsuc 2147483647) (subst (λ z. negsuc 2147483647 ≤ℤ z) now.greatest (fewest_of_32_bits (to_z w32 c.loop-c.greatest-bits) greatest_was)) (subst (λ z. negsuc 2147483647 ≤ℤ z) c.unwrap_or-in-loop-c.ensures (fewest_of_32_bits c.unwrap_or-in-loop-c.result high_fits)))
          ∙ ap (λ l. unwrap_or (greatest_of l) (negsuc 2147483647)) (sym more);
      sum = added.0 ∙ ap sum_of (sym more);
      count = (λ k. now.count k + (one ∙ length-cons_option o) k) ∙ sym (length-append present (cons_option o [])) ∙ ap length (sym more);
      few = omega (arith, now.few, bool_byte_le c.is_some.result);
      within = subst (λ n. IsWithin (to_z w64 (of_z w64 (to_z w64 c.loop-c.sum-bits +ℤ to_z w64 (of_z w64 (to_z w32 (of_z w32 c.unwrap_or-in-loop-c-2.result)))))) (2 ^ 31 * (c.loop-c.count + n))) (sym one) added.1;
    }
