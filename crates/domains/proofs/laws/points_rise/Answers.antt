use Rattle.domains.proofs.Halves.{pairs_rise, pairs_rise_in}
use Rattle.domains.proofs.laws.points_rise.Goals as goal

pub returns-clause-domains : goal.returns-clause-domains
returns-clause-domains c = pairs_rise

pub returns-clause-boxes : goal.returns-clause-boxes
returns-clause-boxes c = pairs_rise_in
