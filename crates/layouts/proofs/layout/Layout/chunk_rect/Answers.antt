use Rattle.layouts.proofs.layout.Layout.chunk_rect.Goals as goal

pub tile_rect-requires-clause-lengths : goal.tile_rect-requires-clause-lengths
tile_rect-requires-clause-lengths c = c.self.invariant.facts.chunk_some
