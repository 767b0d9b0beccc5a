use Rattle.array_file.proofs.Files.{length-array_bytes}
use Rattle.array_file.proofs.laws.written_array_has_its_size.Goals as goal

pub returns : goal.returns
returns c = length-array_bytes
