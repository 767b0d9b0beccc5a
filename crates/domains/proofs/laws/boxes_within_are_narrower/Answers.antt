use Rattle.domains.proofs.Within.{narrower, as_wide}
use Rattle.domains.proofs.laws.boxes_within_are_narrower.Goals as goal

pub returns-clause-narrower : goal.returns-clause-narrower
returns-clause-narrower c = λ a b box h. narrower a b box.values h

pub returns-clause-equal : goal.returns-clause-equal
returns-clause-equal c = λ a b box other h. as_wide a b box.values other.values h
