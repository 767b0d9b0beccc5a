-- The form of names.
-- Used by `Name::from_bytes`, by the rules of a query and by the reader of query files.
use Rattle.std.specs.Prelude.{◌≡◌, ℕ, ◌-◌, ◌≤◌, Bool, true, take, drop, ◌&&◌, ◌||◌, ◌==◌, nat_le, List, ◌++◌, length, replicate, slice_index}
use Rattle.std.specs.List.{list_all}
use Rattle.query_model.specs.declared.parts.Name.{Name}

-- a letter of ASCII or an underscore
abbrev pub begins_name : ℕ → Bool
begins_name b = (nat_le 65 b && nat_le b 90) || (nat_le 97 b && nat_le b 122) || (b == 95)

-- such a byte or a digit
abbrev pub continues_name : ℕ → Bool
continues_name b = begins_name b || (nat_le 48 b && nat_le b 57)

-- 1 to 32 such bytes, the first of which is not a digit
abbrev pub is_name : List ℕ → Bool
is_name text = nat_le 1 (length text) && nat_le (length text) 32 && begins_name (slice_index text 0) && list_all continues_name text

-- 1 to 32 bytes of such a form, and zeros after them
pub record IsName (name : Name) : Type 0 where
  pub short : name.len ≤ 32
  pub form : is_name (take name.len name.bytes) ≡ true
  pub padded : drop name.len name.bytes ≡ replicate (32 - name.len) 0

-- the name with these bytes, and zeros after them
abbrev pub name_of : List ℕ → Name
name_of text = record { len = length text; bytes = text ++ replicate (32 - length text) 0 }
