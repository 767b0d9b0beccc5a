use Rattle.std.proofs.Common.{ap, arith}
use Rattle.layouts.specs.declared.numbers.LayoutNumbers.{LayoutNumbers}
use Rattle.layouts.proofs.layout.Layout.blocks_meeting.Goals as goal

pub bounds-self-inside-level : goal.bounds-self-inside-level
bounds-self-inside-level c =
    let few = c.self.invariant.facts.levels_few in
    let same = ap (λ (l : LayoutNumbers). l.levels) c.self.view_is in omega (arith, few, same)

pub tiles_meeting-requires : goal.tiles_meeting-requires
tiles_meeting-requires c =
    let same = ap (λ (l : LayoutNumbers). l.levels) c.self.view_is in c.self.invariant.facts.block_some c.args.level (omega (arith, same))
