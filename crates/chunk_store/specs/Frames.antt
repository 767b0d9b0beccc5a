-- What a frame shows.
-- Used in this crate alone.
use Rattle.std.specs.Prelude.{ℕ, List, Option}
use Rattle.cells.specs.declared.cell.Cell.{Cell}

-- the number of the chunk that a frame holds, if it holds one, and the frame's cells
pub record FrameParts : Type 0 where
  pub chunk : Option ℕ
  pub cells : List Cell
