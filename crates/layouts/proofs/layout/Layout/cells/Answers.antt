use Rattle.std.proofs.Common.{arith}
use Rattle.layouts.proofs.layout.Layout.cells.Goals as goal

pub product-requires : goal.product-requires
product-requires c = c.self.invariant.facts.extents

pub overflow_cast-result : goal.overflow_cast-result
overflow_cast-result c = let few = c.self.invariant.facts.cells in omega (arith, few)

pub returns-clause-few : goal.returns-clause-few
returns-clause-few c = let few = c.self.invariant.facts.cells in omega (arith, few)
