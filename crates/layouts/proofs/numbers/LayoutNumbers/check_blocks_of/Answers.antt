use Rattle.std.proofs.Common.{sym, ◌∙◌, arith, below_more}
use Rattle.layouts.specs.Rules.{block_rule}
use Rattle.lists.proofs.Rules.{kept_dimensions, broken_dimension}
use Rattle.layouts.proofs.numbers.LayoutNumbers.check_blocks_of.Goals as goal

pub returns-then-not-is_block_length : goal.returns-then-not-is_block_length
returns-then-not-is_block_length c =
    broken_dimension (block_rule c.args.self.now c.args.level) c.loop-dim.dim c.loop-dim.invariant c.loop-dim-test.true
    (sym c.is_block_length.ensures ∙ c.if-not-is_block_length.true)

pub loop-dim-preserved : goal.loop-dim-preserved
loop-dim-preserved c = below_more _ _ c.loop-dim.invariant (sym c.is_block_length.ensures ∙ c.if-not-is_block_length.false)

pub returns : goal.returns
returns c =
    let passed = c.loop-dim-test.false in
    kept_dimensions (block_rule c.args.self.now c.args.level) (λ d below. c.loop-dim.invariant d (omega arith))
