-- The file that a source reads.
-- Used by everything that reads through a source.
use Rattle.std.specs.Prelude.{ℕ, List, Option}

-- a file, as the source that reads it shows it
pub record StoredFile : Type 0 where
  -- its bytes, if they are told
  pub bytes : Option (List ℕ)
  -- how many bytes it has, told or not
  pub len : ℕ
  -- the name that it was opened as, if it is told
  pub name : Option (List ℕ)
