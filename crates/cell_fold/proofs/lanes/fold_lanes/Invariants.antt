use Rattle.std.proofs.Common.{◌≡◌, ◌≤◌, ◌*◌, ◌^◌, ◌-◌, length, take, filter_map}
use Rattle.cells.specs.Cells.{cell_value}
use Rattle.lists.specs.Numbers.{IsWithin}
use Rattle.cells.specs.Records.{record_of}
use Rattle.cell_fold.proofs.lanes.fold_lanes.Given as goal

abbrev pub invariant-loop-done : goal.invariant-loop-done
invariant-loop-done l = record {
  inside : l.done ≤ length l.cells;
  record_so_far : l.all ≡ record_of (filter_map cell_value (take l.done l.cells));
  few : l.all.count ≤ l.done;
  each : IsWithin l.all.sum (2 ^ 31 * l.all.count);
}

abbrev pub decreases-loop-done : goal.decreases-loop-done
decreases-loop-done l = length l.cells - l.done
