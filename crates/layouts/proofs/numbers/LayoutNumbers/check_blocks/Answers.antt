use Rattle.std.proofs.Common.{arith, below_more}
use Rattle.std.proofs.lemmas.Result.{err_from_is_err_and}
use Rattle.layouts.specs.Rules.{block_rules_of}
use Rattle.lists.proofs.Rules.{kept_below, broken_at}
use Rattle.layouts.proofs.numbers.LayoutNumbers.check_blocks.Goals as goal

pub returns-in_err-check_blocks_of : goal.returns-in_err-check_blocks_of
returns-in_err-check_blocks_of c =
    let p = err_from_is_err_and c.from_residual.result c.from_residual.ensures.1 in
    rw (p.1, p.2)
    (broken_at (block_rules_of c.args.self.now) 4 c.loop-level.level _ c.loop-level.invariant c.loop-level-test.true c.in_err-check_blocks_of.ensures)

pub loop-level-preserved : goal.loop-level-preserved
loop-level-preserved c = below_more _ _ c.loop-level.invariant c.in_ok-check_blocks_of.ensures

pub returns : goal.returns
returns c =
    let passed = c.loop-level-test.false in
    kept_below (block_rules_of c.args.self.now) 4 (λ k below. c.loop-level.invariant k (omega arith))
