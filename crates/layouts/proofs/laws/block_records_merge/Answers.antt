use Rattle.layouts.proofs.Meeting.{block_records, chunk_records}
use Rattle.layouts.proofs.laws.block_records_merge.Goals as goal

pub returns-clause-blocks : goal.returns-clause-blocks
returns-clause-blocks c = block_records c.tile_records_merge.ensures

pub returns-clause-chunks : goal.returns-clause-chunks
returns-clause-chunks c = chunk_records c.tile_records_merge.ensures
