use Rattle.array_file.proofs.Headers.{stored_layout-header}
use Rattle.array_file.proofs.laws.written_layout_is_read.Goals as goal

pub returns : goal.returns
returns c = stored_layout-header
