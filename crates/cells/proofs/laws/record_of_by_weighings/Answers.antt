use Rattle.cells.proofs.Records.{record_of-same}
use Rattle.cells.proofs.laws.record_of_by_weighings.Goals as goal

pub returns : goal.returns
returns c = record_of-same
