-- Which refusals are of a limit. All others say that a value does not have the form of a query.
-- The laws use it.
use Rattle.query_text.specs.declared.refusal.QueryRefusal.{QueryRefusal}
use Rattle.query_text.specs.declared.refusal.QueryRefusal.TheVariants.{TooLong, NotJson, Shape, UnknownKey, Number, Name, Repeated, Unbound, Dimensions, TooMany, TooLarge}

-- a size was refused
abbrev pub IsLimit : QueryRefusal → Type 0
-- the number of bytes
IsLimit (TooLong size) = Unit {0}
-- the size of a number, or that it is not whole
IsLimit (Number location) = Unit {0}
-- the number of items
IsLimit (TooMany location) = Unit {0}
-- the number of points
IsLimit TooLarge = Unit {0}
-- the bytes are not JSON
IsLimit NotJson = ⊥
-- a value of another kind
IsLimit (Shape location) = ⊥
-- a key that is not allowed
IsLimit (UnknownKey location) = ⊥
-- a string that is not a name, or not a word that is allowed there
IsLimit (Name location) = ⊥
-- a second one, where only one is allowed
IsLimit (Repeated location) = ⊥
-- a name of no variable and of no region
IsLimit (Unbound location) = ⊥
-- another number of dimensions
IsLimit (Dimensions region found) = ⊥
