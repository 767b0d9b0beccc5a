use Rattle.std.proofs.Common.{◌≡◌, length, take, map}
use Rattle.query_model.specs.Answer.{domain_of}
use Rattle.query_model.proofs.query.Query.root.Given as goal

abbrev pub invariant-loop-i : goal.invariant-loop-i
invariant-loop-i l = (length l.doms ≡ 8) × (take l.i l.doms ≡ map domain_of (take l.i l.self.variables))
