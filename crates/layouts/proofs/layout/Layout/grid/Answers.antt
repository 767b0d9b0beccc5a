use Rattle.std.proofs.Common.{ap, arith}
use Rattle.layouts.specs.declared.numbers.LayoutNumbers.{LayoutNumbers}
use Rattle.layouts.proofs.layout.Layout.grid.Goals as goal

pub bounds-self-inside-level : goal.bounds-self-inside-level
bounds-self-inside-level c =
    let few = c.self.invariant.facts.levels_few in
    let same = ap (λ (l : LayoutNumbers). l.levels) c.self.view_is in omega (arith, few, same)

pub grid_of-requires : goal.grid_of-requires
grid_of-requires c =
    let same = ap (λ (l : LayoutNumbers). l.levels) c.self.view_is in c.self.invariant.facts.block_some c.args.level (omega (arith, same))
