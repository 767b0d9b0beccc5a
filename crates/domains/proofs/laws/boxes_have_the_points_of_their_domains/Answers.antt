use Rattle.domains.proofs.NonemptyDomains.{points_in-box_from}
use Rattle.domains.proofs.laws.boxes_have_the_points_of_their_domains.Goals as goal

pub returns : goal.returns
returns c = points_in-box_from
