use Rattle.std.proofs.Common.{◌+◌, ◌-◌, ◌≡◌, ◌≤◌, ◌^◌, ◌++◌, ◌∙◌, ap, sym, take, drop, filter_map, length-take, length-drop, arith}
use Rattle.std.specs.List.{sum_by}
use Rattle.std.proofs.lemmas.List.Elements.{filter_map-append}
use Rattle.std.proofs.Math.Seq.{take-add}
use Rattle.cells.specs.Cells.{cell_value}
use Rattle.cells.specs.declared.cell.Cell.{Cell}
use Rattle.lists.proofs.Folds.{sums-fit}
use Rattle.cell_fold.proofs.lanes.fold_lanes.Goals as goal

pub merge-all-requires-clause-sum : goal.merge-all-requires-clause-sum
merge-all-requires-clause-sum c =
    let before = c.loop-done.invariant in
    let one = c.part_record-one in
    let few : c.loop-done.all.count + one.result.count ≤ 2 ^ 26 = omega (arith, c.min-n.ensures, c.requires, before.few, before.inside, one.ensures.few, length-take {A = Cell}, length-drop {A = Cell}) in
    sums-fit c.loop-done.all.sum one.result.sum c.loop-done.all.count one.result.count before.each one.ensures.each few

pub loop-done-preserved : goal.loop-done-preserved
loop-done-preserved c =
    let before = c.loop-done.invariant in
    let cells = c.args.cells.now in
    let done = c.loop-done.done in
    let n = c.min-n.result in
    let block = take (done + n - done) (drop done cells) in
    let one = c.part_record-one.ensures in
    let joined : take done cells ++ block ≡ take (done + n) cells = ap (λ m. take done cells ++ take m (drop done cells)) (omega arith) ∙ sym (take-add done n cells) in
    record {
      inside = omega (arith, c.min-n.ensures, before.inside);
      record_so_far =
          c.merge-all.ensures.meant (filter_map cell_value (take done cells)) (filter_map cell_value block) (filter_map cell_value (take (done + n) cells)) before.record_so_far one.record
          (λ weight. ap (sum_by weight) (ap (filter_map cell_value) (sym joined) ∙ filter_map-append cell_value (take done cells) block));
      few = omega (arith, c.merge-all.ensures.count, before.few, one.few, length-take {A = Cell}, length-drop {A = Cell});
      each = c.merge-all.ensures.each before.each one.each;
    }
