use Rattle.layouts.proofs.layout.Layout.rank.Goals as goal

pub returns-clause-known : goal.returns-clause-known
returns-clause-known c = let facts = c.self.invariant.facts in (facts.rank_some, facts.rank_few)
