use Rattle.array_file.proofs.Headers.{length-header}
use Rattle.array_file.proofs.laws.header_has_96_bytes.Goals as goal

pub returns : goal.returns
returns c = length-header
