use Rattle.std.proofs.Common.{◌≡◌, ◌+◌, ◌-◌, ◌≤◌, [], length, vec_capacity}
use Rattle.array_text.specs.Reads.{rest_of}
use Rattle.array_text.specs.Walk.{cells_from}
use Rattle.array_text.proofs.cell_words.read_cells.Given as goal

abbrev pub invariant-loop : goal.invariant-loop
invariant-loop l =
    record {
      walk : cells_from (l.count - l.counter) l.cells.items (rest_of l.text.next l.text.bytes.now) ≡ cells_from l.count [] (rest_of l.fn.text.next l.fn.text.bytes.now);
      count : length l.cells.items ≡ l.counter;
      left : l.counter + length l.text.bytes.now ≤ length l.fn.text.bytes.now;
      room : l.room ≤ vec_capacity l.cells;
    }
