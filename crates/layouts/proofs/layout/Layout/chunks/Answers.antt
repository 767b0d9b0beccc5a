use Rattle.layouts.proofs.layout.Layout.chunks.Goals as goal

pub tile_count-requires-clause-extents : goal.tile_count-requires-clause-extents
tile_count-requires-clause-extents c = c.self.invariant.facts.extents

pub tile_count-requires-clause-lengths : goal.tile_count-requires-clause-lengths
tile_count-requires-clause-lengths c = c.self.invariant.facts.chunk
