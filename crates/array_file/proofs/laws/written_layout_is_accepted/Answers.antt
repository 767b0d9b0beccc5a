use Rattle.array_file.proofs.Headers.{layout_refusal-header}
use Rattle.array_file.proofs.laws.written_layout_is_accepted.Goals as goal

pub returns : goal.returns
returns c = layout_refusal-header
