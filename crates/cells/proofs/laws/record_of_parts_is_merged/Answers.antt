use Rattle.cells.proofs.Records.{record_of-flat_map}
use Rattle.cells.proofs.laws.record_of_parts_is_merged.Goals as goal

pub returns : goal.returns
returns c = record_of-flat_map
