use Rattle.std.proofs.Common.{sym, ◌∙◌}
use Rattle.layouts.specs.Rules.{chunk_rule}
use Rattle.lists.proofs.Rules.{broken_dimension}
use Rattle.layouts.proofs.numbers.LayoutNumbers.check_chunk.Goals as goal

pub returns-then-not-is_length : goal.returns-then-not-is_length
returns-then-not-is_length c =
    broken_dimension (chunk_rule c.args.self.now) c.loop-dim.dim c.loop-dim.invariant c.loop-dim-test.true (sym c.is_length.ensures ∙ c.if-not-is_length.true)
