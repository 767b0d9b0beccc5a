use Rattle.cells.proofs.Records.{record_of-permutation}
use Rattle.cells.proofs.laws.record_of_is_free_of_order.Goals as goal

pub returns : goal.returns
returns c = record_of-permutation
