use Rattle.query_model.proofs.Solutions.{answer-root}
use Rattle.query_model.proofs.laws.answer_is_in_the_root.Goals as goal

pub returns : goal.returns
returns c = answer-root c.boxes_have_the_points_of_their_domains.ensures
