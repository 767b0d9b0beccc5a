use Rattle.query_model.proofs.Solutions.{contains_answer}
use Rattle.query_model.proofs.laws.answer_is_all_solutions.Goals as goal

pub returns : goal.returns
returns c = contains_answer c.points_are_in_box.ensures.domains
