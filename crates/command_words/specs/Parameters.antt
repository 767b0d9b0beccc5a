-- What a command asks of the words after its name: a list of parameters.
-- Used by the rules of the commands and by the laws.
use Rattle.std.specs.Prelude.{◌+◌, ◌-◌, ◌^◌, ◌&&◌, not, ℕ, Bool, true, false, List, [], ◌∷◌, length, if◌then◌else◌, nat_le, nat_lt, codes}
use Rattle.std.specs.List.{list_all, list_any}
use Rattle.std.specs.Char.{digit_value}
use Rattle.std.specs.Str.{bytes_eq}
use Rattle.std.specs.Str.Parse.{digits_value, without_leading_plus}
use Rattle.clap.specs.Words.{Text}

pub data Parameter : Type 0 where
  -- a text, known by its place among the words
  text : (id : Text) → Parameter
  -- a whole number from low to high, known by its place
  positional_number : (id : Text) (low high : ℕ) → Parameter
  -- an option without a value, `--id`
  flag : (id : Text) → Parameter
  -- an option `--id N` with a whole number from low to high. If it is left out, the number is the default
  number : (id : Text) (low high : ℕ) (default : Text) → Parameter
  -- an option `--id N` that has to be given
  required_number : (id : Text) (low high : ℕ) → Parameter

abbrev pub id_of : Parameter → Text
id_of (text id) = id
id_of (positional_number id low high) = id
id_of (flag id) = id
id_of (number id low high default) = id
id_of (required_number id low high) = id

-- it is known by its place, and is no option
abbrev pub is_positional : Parameter → Bool
is_positional (text id) = true
is_positional (positional_number id low high) = true
is_positional (flag id) = false
is_positional (number id low high default) = false
is_positional (required_number id low high) = false

abbrev pub is_flag : Parameter → Bool
is_flag (text id) = false
is_flag (positional_number id low high) = false
is_flag (flag id) = true
is_flag (number id low high default) = false
is_flag (required_number id low high) = false

-- it has to be given
abbrev pub is_required : Parameter → Bool
is_required (text id) = true
is_required (positional_number id low high) = true
is_required (flag id) = false
is_required (number id low high default) = false
is_required (required_number id low high) = true

-- ---- numbers

-- digits, at least one
abbrev pub are_digits : List ℕ → Bool
are_digits digits = nat_lt 0 (length digits) && list_all (λ d. nat_lt (digit_value d) 10) digits

-- the number that the text is: digits, possibly after a plus. 0 if it is not a number of 64 bits
abbrev pub number_of : Text → ℕ
number_of word =
    let digits = without_leading_plus word in
    if are_digits digits && nat_lt (digits_value 10 digits) (2 ^ 64) then digits_value 10 digits else 0

-- the text is a number from low to high
abbrev pub is_number_in : ℕ → ℕ → Text → Bool
is_number_in low high word =
    let digits = without_leading_plus word in
    are_digits digits
    && (nat_lt (digits_value 10 digits) (2 ^ 64) && (nat_le low (digits_value 10 digits) && nat_le (digits_value 10 digits) high))

-- the parameter can have this value
abbrev pub takes : Parameter → Text → Bool
takes (text id) word = true
takes (positional_number id low high) word = is_number_in low high word
takes (flag id) word = false
takes (number id low high default) word = is_number_in low high word
takes (required_number id low high) word = is_number_in low high word

-- ---- lists of parameters

-- the parameter can have its own default
abbrev pub fits_default : Parameter → Bool
fits_default (text id) = true
fits_default (positional_number id low high) = true
fits_default (flag id) = true
fits_default (number id low high default) = is_number_in low high default
fits_default (required_number id low high) = true

-- no two parameters have the same id
abbrev pub have_distinct_ids : List Parameter → Bool
have_distinct_ids [] = true
have_distinct_ids (p ∷ ps) = not (list_any (λ q. bytes_eq (id_of p) (id_of q)) ps) && have_distinct_ids ps

-- the parameters can be those of a command
abbrev pub are_sound : List Parameter → Bool
are_sound ps = have_distinct_ids ps && (list_all fits_default ps && nat_lt (1 + length ps) (2 ^ 64 - 1))

-- the text that stands for the parameter if it is left out
abbrev pub default_of : Parameter → Text
default_of (text id) = []
default_of (positional_number id low high) = []
default_of (flag id) = codes "false"
default_of (number id low high default) = default
default_of (required_number id low high) = []
