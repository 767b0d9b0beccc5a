use Rattle.domains.proofs.HalvesOrder.{halves_boxes, halves_counts}
use Rattle.domains.proofs.Measures.{measures_fall}
use Rattle.domains.proofs.laws.halves_are_smaller.Goals as goal

pub returns-clause-boxes : goal.returns-clause-boxes
returns-clause-boxes c = halves_boxes

pub returns-clause-points : goal.returns-clause-points
returns-clause-points c = halves_counts

pub returns-clause-measure : goal.returns-clause-measure
returns-clause-measure c = λ b h more. measures_fall b h.values more
