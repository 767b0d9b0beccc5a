use Rattle.cells.proofs.Records.{record_of-append}
use Rattle.cells.proofs.laws.record_of_both_is_merged.Goals as goal

pub returns : goal.returns
returns c = record_of-append
