use Rattle.std.proofs.Common.{◌≡◌, ◌-◌}
use Rattle.array_text.specs.Reads.{rest_of}
use Rattle.array_text.specs.Walk.{levels_from, no_blocks}
use Rattle.array_text.proofs.layout.read_levels.Given as goal

abbrev pub invariant-loop-count : goal.invariant-loop-count
invariant-loop-count l =
    levels_from l.rank (4 - l.count) l.count l.blocks (rest_of l.text.next l.text.bytes.now) ≡ levels_from l.rank 4 0 no_blocks (rest_of l.fn.text.next l.fn.text.bytes.now)
