use Rattle.std.proofs.Common.{pos, arith, ◌∙◌, set, ◌<◌, to_z, of_z, w32, SFits}
use Rattle.std.proofs.Math.Seq.{take-set-lt}
use Rattle.std.proofs.lemmas.Int.{to_z-of_z}
use Rattle.domains.proofs.Padding.{length_padded}
use Rattle.domains.proofs.point.Point.put.Goals as goal

pub returns : goal.returns
returns c =
    let inside = c.self.inside in
    let value = c.args.value in
    let fits : SFits w32 value = c.ranges.value in
    let long = length_padded (pos 0) inside.n inside.at _ c.self.invariant c.self.view_is in
    let below : c.args.var < inside.n = omega (arith, long, c.requires) in
    take-set-lt inside.n inside.at c.args.var (to_z w32 (of_z w32 value)) below
    ∙ (λ i. set (c.self.view_is i) c.args.var (to_z-of_z w32 value fits i))
