use Rattle.array_file.proofs.Files.{refusal_of-array_bytes}
use Rattle.array_file.proofs.laws.written_array_is_accepted.Goals as goal

pub returns : goal.returns
returns c = refusal_of-array_bytes
