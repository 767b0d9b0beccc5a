use Rattle.layouts.specs.Chunks.{block_extents}
use Rattle.grids.proofs.Nesting.{tile_of-tile_from, tile_rect-inside, tile_rect-inside_one}
use Rattle.layouts.proofs.laws.blocks_lie_in_chunks.Goals as goal

pub returns : goal.returns
returns c = record {
  chunk = λ l b is exists.
      let f = is.facts in tile_of-tile_from l.extents (block_extents l 0) l.chunk b (f.block_tiles 0 f.levels_some) f.chunk_tiles exists;
  inside = λ l b is exists.
      let f = is.facts in tile_rect-inside l.extents (block_extents l 0) l.chunk b (f.block_tiles 0 f.levels_some) f.chunk_tiles f.chunk_divided exists;
  alone = λ l b n at is exists chunk_exists here there.
      let f = is.facts in
      tile_rect-inside_one l.extents (block_extents l 0) l.chunk b n at (f.block_tiles 0 f.levels_some) f.chunk_tiles f.chunk_divided exists chunk_exists here there;
}
