use Rattle.std.proofs.Common.{arith}
use Rattle.layouts.proofs.layout.Layout.chunk_of.Goals as goal

pub tile_of-chunk-requires-clause-lengths : goal.tile_of-chunk-requires-clause-lengths
tile_of-chunk-requires-clause-lengths c = c.self.invariant.facts.chunk_some

pub tile_of-chunk-requires-clause-few : goal.tile_of-chunk-requires-clause-few
tile_of-chunk-requires-clause-few c = let few = c.self.invariant.facts.chunks_few in omega (arith, few)

pub index_in_tile-requires-clause-lengths : goal.index_in_tile-requires-clause-lengths
index_in_tile-requires-clause-lengths c = c.self.invariant.facts.chunk_some

pub index_in_tile-requires-clause-few : goal.index_in_tile-requires-clause-few
index_in_tile-requires-clause-few c = let few = c.self.invariant.facts.chunk_cells in omega (arith, few)
