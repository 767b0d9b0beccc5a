use Rattle.query_text.proofs.QueryForms.{refused_limit}
use Rattle.query_text.proofs.laws.only_limits_refuse_the_form.Goals as goal

pub returns : goal.returns
returns c = refused_limit
