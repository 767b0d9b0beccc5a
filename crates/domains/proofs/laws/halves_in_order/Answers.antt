use Rattle.domains.proofs.HalvesOrder.{halves_order}
use Rattle.domains.proofs.laws.halves_in_order.Goals as goal

pub returns : goal.returns
returns c = λ b h more. halves_order b h.values more
