use Rattle.query_text.proofs.QueryForms.{walk_query-form}
use Rattle.query_text.proofs.laws.forms_within_the_limits_are_accepted.Goals as goal

pub returns : goal.returns
returns c = walk_query-form
