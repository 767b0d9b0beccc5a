use Rattle.domains.specs.contracts.point.PointOrd.TheImpl.Laws.{total-law}
use Rattle.domains.proofs.PointOrder.{cmp-values, cmp-ties, eq-same}
use Rattle.domains.proofs.laws.points_are_ordered.Goals as goal

pub returns-clause-total : goal.returns-clause-total
returns-clause-total c = total-law

pub returns-clause-values : goal.returns-clause-values
returns-clause-values c = cmp-values

pub returns-clause-ties : goal.returns-clause-ties
returns-clause-ties c = cmp-ties

pub returns-clause-equal : goal.returns-clause-equal
returns-clause-equal c = eq-same
