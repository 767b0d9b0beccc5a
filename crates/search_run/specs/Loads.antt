-- What loading does to a shelf.
-- Used by all that loads a file.
use Rattle.std.specs.Prelude.{◌≡◌, ◌≤◌, ℕ, List}
use Rattle.lists.specs.Appending.{AppendsPrefix}
use Rattle.source_io.specs.Shelf.{ShelfState, FinishesNothing}

-- a prefix of these names was opened, and everything was handed back; no file was made
pub record OnlyOpens (names : List (List ℕ)) (old new : ShelfState) : Type 0 where
  pub opened : AppendsPrefix old.opened names new.opened
  pub faults : old.faults ≤ new.faults
  pub source_faults : old.source_faults ≤ new.source_faults
  pub lent : new.lent ≡ old.lent
  pub making : new.making ≡ old.making
  pub files : FinishesNothing old new
