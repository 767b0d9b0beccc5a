use Rattle.query_text.proofs.QueryForms.{query_form-accepted}
use Rattle.query_text.proofs.laws.accepted_queries_have_the_form.Goals as goal

pub returns : goal.returns
returns c = query_form-accepted
