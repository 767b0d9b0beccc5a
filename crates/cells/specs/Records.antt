-- The record of some numbers.
-- Used by `cell_fold`, `plain_enum`, `chunk_store` and `search_run`, and in this crate.
use Rattle.std.specs.Prelude.{◌+◌, ◌+ℤ◌, ◌==◌, List, ℤ, pos, length, unwrap_or, if◌then◌else◌}
use Rattle.std.specs.Int.{int_min, int_max}
use Rattle.lists.specs.Numbers.{sum_of, least_of, greatest_of}
use Rattle.cells.specs.declared.record.Record.{Record}

-- their least, greatest, sum and count; all 0 if there are none
abbrev pub record_of : List ℤ → Record
record_of numbers = record {
  least = unwrap_or (least_of numbers) (pos 0);
  greatest = unwrap_or (greatest_of numbers) (pos 0);
  sum = sum_of numbers;
  count = length numbers;
}

-- the record of all numbers of two records. If one is of no numbers, it is the other
abbrev pub merged : Record → Record → Record
merged a b =
    if a.count == 0 then b else
    if b.count == 0 then a else
    record { least = int_min a.least b.least; greatest = int_max a.greatest b.greatest; sum = a.sum +ℤ b.sum; count = a.count + b.count }
