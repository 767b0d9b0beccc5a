use Rattle.domains.proofs.Halves.{halves_share}
use Rattle.domains.proofs.laws.halves_share_out.Goals as goal

pub returns : goal.returns
returns c = λ b h more. halves_share b h.values more
