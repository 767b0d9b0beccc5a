use Rattle.query_text.proofs.Ranks.{gives-rank}
use Rattle.query_text.proofs.read.read_query.Goals as goal

pub returns-clause-rank : goal.returns-clause-rank
returns-clause-rank c = gives-rank c.args.rank c.args.bytes.now c.read_short_query.result c.read_short_query.ensures
