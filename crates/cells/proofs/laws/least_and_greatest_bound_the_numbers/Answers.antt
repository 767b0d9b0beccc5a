use Rattle.lists.proofs.Orders.{least-is, greatest-is}
use Rattle.cells.proofs.laws.least_and_greatest_bound_the_numbers.Goals as goal

pub returns-clause-least : goal.returns-clause-least
returns-clause-least c = least-is

pub returns-clause-greatest : goal.returns-clause-greatest
returns-clause-greatest c = greatest-is
