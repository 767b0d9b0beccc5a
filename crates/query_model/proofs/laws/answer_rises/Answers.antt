use Rattle.query_model.proofs.Solutions.{pairs_rise_in_answer}
use Rattle.query_model.proofs.laws.answer_rises.Goals as goal

pub returns : goal.returns
returns c = pairs_rise_in_answer c.points_rise.ensures.domains
