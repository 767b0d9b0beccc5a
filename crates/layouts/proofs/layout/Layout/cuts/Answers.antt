use Rattle.std.proofs.Common.{rules, ◌≡◌, [], ◌∷◌, ap, sym, subst, ◌∙◌}
use Rattle.layouts.specs.Cuts.{AreCuts}
use Rattle.layouts.specs.Rules.{IsLayout}
use Rattle.layouts.specs.declared.numbers.LayoutNumbers.{LayoutNumbers}
use Rattle.layouts.proofs.Cuts.{cuts-three, are_cuts}
use Rattle.layouts.proofs.layout.Layout.cuts.Goals as goal

pub returns-clause-cuts : goal.returns-clause-cuts
returns-clause-cuts c =
    let l = c.args.self.now in
    let r = c.chunk_rect-rect.result in
    let made : c.new.result ∷ c.new-2.result ∷ c.new-3.result ∷ [] ≡ cuts-three c.self.inside.numbers.extents c.self.inside.numbers.chunk r = (λ i. c.new.ensures i ∷ c.new-2.ensures i ∷ c.new-3.ensures i ∷ []) in
    let same = ap (λ (n : LayoutNumbers). cuts-three n.extents n.chunk r) c.self.view_is in
    subst (AreCuts l c.args.n) (sym (made ∙ same)) (are_cuts l c.args.n r (subst IsLayout c.self.view_is c.self.invariant) c.requires c.chunk_rect-rect.ensures (search rules) (search rules))
