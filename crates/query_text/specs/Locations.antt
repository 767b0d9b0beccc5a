-- Locations in a query: a part, an item of it, a field of the item, and a dimension of the field.
-- The walk names them in its refusals, and `search_run` prints them.
use Rattle.std.specs.Prelude.{ℕ}
use Rattle.query_text.specs.declared.location.Field.{Field}
use Rattle.query_text.specs.declared.location.Field.TheVariants.{VariableName, VariableFrom, VariableTo, RegionName, RegionAt, RegionLength, ConstraintAgg, ConstraintOf, ConstraintExpr, ConstraintCmp, ConstraintTo}
use Rattle.query_text.specs.declared.location.Location.{Location}
use Rattle.query_text.specs.declared.location.Part.{Part}
use Rattle.query_text.specs.declared.location.Part.TheVariants.{Variables, Regions, Constraints}

-- the number of a part
abbrev pub part_number : Part → ℕ
part_number Variables = 1
part_number Regions = 2
part_number Constraints = 3

-- the part whose items have a field
abbrev pub part_of : Field → Part
part_of VariableName = Variables
part_of VariableFrom = Variables
part_of VariableTo = Variables
part_of RegionName = Regions
part_of RegionAt = Regions
part_of RegionLength = Regions
part_of ConstraintAgg = Constraints
part_of ConstraintOf = Constraints
part_of ConstraintExpr = Constraints
part_of ConstraintCmp = Constraints
part_of ConstraintTo = Constraints

-- the number of a field among those of its part
abbrev pub field_number : Field → ℕ
field_number VariableName = 1
field_number VariableFrom = 2
field_number VariableTo = 3
field_number RegionName = 1
field_number RegionAt = 2
field_number RegionLength = 3
field_number ConstraintAgg = 1
field_number ConstraintOf = 2
field_number ConstraintExpr = 3
field_number ConstraintCmp = 4
field_number ConstraintTo = 5

-- the query as a whole
abbrev pub query : Location
query = record { part = 0; item = 0; field = 0; sub = 0 }

-- a part as a whole
abbrev pub part : Part → Location
part p = record { part = part_number p; item = 0; field = 0; sub = 0 }

-- the i-th item of a part
abbrev pub item : Part → ℕ → Location
item p i = record { part = part_number p; item = i; field = 0; sub = 0 }

-- a field of the i-th item
abbrev pub field : Field → ℕ → Location
field f i = record { part = part_number (part_of f); item = i; field = field_number f; sub = 0 }

-- the d-th dimension of a field
abbrev pub dimension : Location → ℕ → Location
dimension l d = record { part = l.part; item = l.item; field = l.field; sub = d }
