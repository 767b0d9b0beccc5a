use Rattle.std.proofs.Common.{arith}
use Rattle.report.proofs.info.level_line.Goals as goal

pub block-requires : goal.block-requires
block-requires c = let few = c.rank-rank.ensures.rules.facts.levels_few in let below = c.requires in omega (arith, few, below)
