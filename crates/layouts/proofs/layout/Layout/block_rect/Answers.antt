use Rattle.std.proofs.Common.{ap, arith}
use Rattle.layouts.specs.declared.numbers.LayoutNumbers.{LayoutNumbers}
use Rattle.layouts.proofs.layout.Layout.block_rect.Goals as goal

pub bounds-self-inside-level : goal.bounds-self-inside-level
bounds-self-inside-level c =
    let few = c.self.invariant.facts.levels_few in
    let same = ap (λ (l : LayoutNumbers). l.levels) c.self.view_is in omega (arith, few, same)

pub tile_rect-requires-clause-lengths : goal.tile_rect-requires-clause-lengths
tile_rect-requires-clause-lengths c =
    let same = ap (λ (l : LayoutNumbers). l.levels) c.self.view_is in c.self.invariant.facts.block_some c.args.level (omega (arith, same))
