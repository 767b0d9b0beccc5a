use Rattle.lists.proofs.SameItems.{same-itself, same-turned, same-through, same-append, same-filter, same-map, same-permuted, length-filter-same, same-from_counts}
use Rattle.domains.proofs.PointOrder.{eq-same}
use Rattle.domains.proofs.Within.{rising_points-equal}
use Rattle.domains.proofs.laws.points_are_equal_up_to_order.Goals as goal

pub returns-clause-reflexive : goal.returns-clause-reflexive
returns-clause-reflexive c = same-itself

pub returns-clause-symmetric : goal.returns-clause-symmetric
returns-clause-symmetric c = same-turned

pub returns-clause-transitive : goal.returns-clause-transitive
returns-clause-transitive c = same-through

pub returns-clause-appended : goal.returns-clause-appended
returns-clause-appended c = same-append

pub returns-clause-filtered : goal.returns-clause-filtered
returns-clause-filtered c = same-filter

pub returns-clause-mapped : goal.returns-clause-mapped
returns-clause-mapped c = same-map

pub returns-clause-counted : goal.returns-clause-counted
returns-clause-counted c = λ ps qs. ((λ same p. length-filter-same _ ps qs same), same-from_counts _ eq-same ps qs)

pub returns-clause-rising : goal.returns-clause-rising
returns-clause-rising c = rising_points-equal

pub returns-clause-permuted : goal.returns-clause-permuted
returns-clause-permuted c = same-permuted
