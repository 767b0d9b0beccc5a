use Rattle.domains.proofs.Measures.{bits_enough, bits_least}
use Rattle.domains.proofs.laws.measure_is_least.Goals as goal

pub returns-clause-enough : goal.returns-clause-enough
returns-clause-enough c = bits_enough

pub returns-clause-least : goal.returns-clause-least
returns-clause-least c = bits_least
