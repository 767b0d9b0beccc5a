-- The printed text of an answer.
-- Used by what prints answers.
use Rattle.std.specs.Prelude.{ℕ, List, [], ◌∷◌, ◌++◌, take, flat_map, ℤ, codes}
use Rattle.std.specs.Fmt.{signed_decimal}
use Rattle.std.specs.List.{join_with_byte}
use Rattle.cells.specs.Array.{Array}
use Rattle.query_model.specs.declared.parts.Name.{Name}
use Rattle.query_model.specs.declared.parts.Variable.{Variable}
use Rattle.domains.specs.Points.{Point}
use Rattle.query_model.specs.declared.query.Query.{Query}
use Rattle.query_model.specs.Answer.{answer}

-- the bytes of a name, without the zeros after them
abbrev pub name_bytes : Name → List ℕ
name_bytes n = take n.len n.bytes

-- a variable's name, an equals sign and its value
abbrev pub field_of : Variable → ℤ → List ℕ
field_of v x = name_bytes v.name ++ codes "=" ++ signed_decimal x

-- the field of each variable
abbrev pub fields_of : List Variable → Point → List (List ℕ)
fields_of [] p = []
fields_of (v ∷ vs) [] = []
fields_of (v ∷ vs) (x ∷ p) = field_of v x ∷ fields_of vs p

-- the fields with a space between each two, and a newline
abbrev pub line_of : Query → Point → List ℕ
line_of q p = join_with_byte 32 (fields_of q.variables p) ++ codes "\n"

-- the lines of these points
abbrev pub lines_of : Query → List Point → List ℕ
lines_of q points = flat_map (line_of q) points

-- what is printed for a query on an array
abbrev pub text_of : Array → Query → List ℕ
text_of a q = lines_of q (answer a q)
