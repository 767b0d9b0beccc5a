use Rattle.std.proofs.Common.{◌≡◌, ◌*◌, ◌++◌, take, drop}
use Rattle.array_file.specs.Written.{bytes_of_cells}
use Rattle.array_file.proofs.writing.put_bytes.Given as goal

abbrev pub invariant-loop-k : goal.invariant-loop-k
invariant-loop-k l = l.bytes ≡ bytes_of_cells (take l.k l.cells) ++ drop (4 * l.k) l.fn.bytes
