use Rattle.domains.proofs.Within.{within_itself, within_through, within_both}
use Rattle.domains.proofs.laws.boxes_are_ordered.Goals as goal

pub returns-clause-reflexive : goal.returns-clause-reflexive
returns-clause-reflexive c = within_itself

pub returns-clause-transitive : goal.returns-clause-transitive
returns-clause-transitive c = within_through

pub returns-clause-antisymmetric : goal.returns-clause-antisymmetric
returns-clause-antisymmetric c = within_both
