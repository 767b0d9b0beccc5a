use Rattle.array_file.proofs.Headers.{header-stored}
use Rattle.array_file.proofs.laws.read_layout_is_written_the_same.Goals as goal

pub returns : goal.returns
returns c = header-stored
