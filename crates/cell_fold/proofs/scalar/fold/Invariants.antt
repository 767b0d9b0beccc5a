use Rattle.std.proofs.Common.{◌≡◌, ◌*◌, ◌^◌, ◌≤◌, pos, negsuc, take, length, filter_map, unwrap_or}
use Rattle.cells.specs.Cells.{cell_value}
use Rattle.lists.specs.Numbers.{sum_of, least_of, greatest_of, IsWithin}
use Rattle.cell_fold.proofs.scalar.fold.Given as goal

abbrev pub invariant-loop-c : goal.invariant-loop-c
invariant-loop-c l =
    let present = filter_map cell_value (take l.c-index l.cells) in
    record {
      least : l.least ≡ unwrap_or (least_of present) (pos 2147483647);
      greatest : l.greatest ≡ unwrap_or (greatest_of present) (negsuc 2147483647);
      sum : l.sum ≡ sum_of present;
      count : l.count ≡ length present;
      few : l.count ≤ l.c-index;
      within : IsWithin l.sum (2 ^ 31 * l.count);
    }
