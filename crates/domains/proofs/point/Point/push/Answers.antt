use Rattle.std.proofs.Common.{pos, arith}
use Rattle.domains.proofs.Padding.{padded_more, length_padded}
use Rattle.domains.proofs.point.Point.push.Goals as goal

pub invariant_of-self : goal.invariant_of-self
invariant_of-self c =
    let inside = c.self.inside in
    padded_more (pos 0) inside.n inside.at _ (omega (arith, length_padded (pos 0) inside.n inside.at _ c.self.invariant c.self.view_is, c.requires)) c.self.invariant
