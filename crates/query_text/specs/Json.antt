-- JSON values: the keys of objects, the items of arrays, and whole numbers.
-- `Form`, `Walk` and the contracts of `json_array`, `keys` and `number` use it.
use Rattle.std.specs.Prelude.{ℕ, ℤ, pos, neg_ℤ, Bool, ◌&&◌, int_le, List, [], ◌∷◌, Option, Some, None, option_map, option_and_then, if◌then◌else◌}
use Rattle.std.specs.List.{list_all, list_any}
use Rattle.std.specs.Str.{is_utf8, bytes_eq}
use Rattle.serde_json.specs.Data.{Data, Num, Items, no_items, item, Members, no_members, member}
use Rattle.serde_json.specs.Read.{read}
use Rattle.serde_json.specs.Find.{as_array, as_number, as_str, as_i64}

-- the value that these bytes hold, if they are JSON
abbrev pub json_of : List ℕ → Option Data
json_of bytes = if is_utf8 bytes then read bytes else None

-- ---- objects

abbrev pub keys_of : Members → List (List ℕ)
keys_of no_members = []
keys_of (member key value rest) = key ∷ keys_of rest

-- every key is one of these
abbrev pub has_only : List (List ℕ) → Members → Bool
has_only known members = list_all (λ key. list_any (bytes_eq key) known) (keys_of members)

-- ---- arrays

abbrev pub list_of : Items → List Data
list_of no_items = []
list_of (item d ds) = d ∷ list_of ds

-- the items of an array
abbrev pub items_in : Data → Option (List Data)
items_in d = option_map list_of (as_array d)

-- the two items of a list, if it has exactly two
abbrev pub two_of : List Data → Option (Data × Data)
two_of [] = None
two_of (d ∷ []) = None
two_of (d ∷ e ∷ []) = Some (d, e)
two_of (d ∷ e ∷ f ∷ ds) = None

-- a pair as two numbers, if both are
abbrev pub numbers_of : Data × Data → Option (Num × Num)
numbers_of p = option_and_then (λ m. option_map (λ n. (m, n)) (as_number p.1)) (as_number p.0)

-- a pair as a number and a text, if they are
abbrev pub number_and_text_of : Data × Data → Option (Num × List ℕ)
number_and_text_of p = option_and_then (λ n. option_map (λ text. (n, text)) (as_str p.1)) (as_number p.0)

-- ---- numbers

-- a whole number from low up to high
abbrev pub whole_between : ℤ → ℤ → Num → Option ℤ
whole_between low high n = option_and_then (λ z. if int_le low z && int_le z high then Some z else None) (as_i64 n)

-- a whole number from -bound up to bound
abbrev pub whole_within : ℕ → Num → Option ℤ
whole_within bound n = whole_between (neg_ℤ (pos bound)) (pos bound) n
