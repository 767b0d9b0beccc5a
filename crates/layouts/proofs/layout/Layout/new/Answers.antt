use Rattle.std.proofs.Common.{arith}
use Rattle.layouts.proofs.Layouts.{is_layout}
use Rattle.layouts.proofs.layout.Layout.new.Goals as goal

pub invariant_of-result : goal.invariant_of-result
invariant_of-result c = is_layout c.args.numbers (omega arith) (omega arith) (omega arith) c.three_each-blocks.ensures.three c.in_ok-check.ensures
