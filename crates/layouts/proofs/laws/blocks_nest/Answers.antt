use Rattle.std.proofs.Common.{◌+◌, arith}
use Rattle.layouts.specs.Chunks.{block_extents}
use Rattle.grids.proofs.Nesting.{tile_of-tile_from, tile_rect-inside, tile_rect-inside_one}
use Rattle.layouts.proofs.laws.blocks_nest.Goals as goal

pub returns : goal.returns
returns c = record {
  block = λ l level b is used exists.
      let f = is.facts in
      tile_of-tile_from l.extents (block_extents l level) (block_extents l (level + 1)) b (f.block_tiles level (omega arith)) (f.block_tiles (level + 1) used) exists;
  inside = λ l level b is used exists.
      let f = is.facts in
      tile_rect-inside l.extents (block_extents l level) (block_extents l (level + 1)) b (f.block_tiles level (omega arith)) (f.block_tiles (level + 1) used) (f.block_multiples level used) exists;
  alone = λ l level b other at is used exists other_exists here there.
      let f = is.facts in
      tile_rect-inside_one l.extents (block_extents l level) (block_extents l (level + 1)) b other at (f.block_tiles level (omega arith)) (f.block_tiles (level + 1) used) (f.block_multiples level used) exists other_exists here there;
}
