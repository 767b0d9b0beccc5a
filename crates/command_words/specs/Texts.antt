-- What the words after a command's name give to its parameters, read from left to right.
-- Used by the laws alone.
use Rattle.std.specs.Prelude.{⊤, ℕ, Bool, true, not, ◌&&◌, ◌||◌, ◌==◌, nat_eq, List, [], ◌∷◌, drop, filter, map, find, Option, Some, None, option_map, unwrap_or, if◌then◌else◌, codes}
use Rattle.std.specs.List.{starts_with, list_all, list_any, before_first, after_first}
use Rattle.std.specs.Option.{option_map_or}
use Rattle.std.specs.Str.{bytes_eq, IsUtf8}
use Rattle.clap.specs.Words.{Text}
use Rattle.command_words.specs.Parameters.{Parameter, id_of, is_positional, is_flag, is_required, takes, number_of, default_of}

-- ---- words

-- the word `--`
abbrev pub is_divider : Text → Bool
is_divider word = bytes_eq word (codes "--")

-- a word that begins with a dash, and is neither the dash alone nor `--`
abbrev pub is_option : Text → Bool
is_option word = starts_with nat_eq word (codes "-") && not (bytes_eq word (codes "-")) && not (is_divider word)

-- the text between the two dashes of an option and its first `=` (61)
abbrev pub name_in : Text → Text
name_in word = before_first (λ x. x == 61) (drop 2 word)

-- the text after that `=`, if there is one
abbrev pub value_in : Text → Option Text
value_in word = if list_any (λ x. x == 61) (drop 2 word) then Some (after_first (λ x. x == 61) (drop 2 word)) else None

-- each word is a text in UTF-8
abbrev pub AreUtf8 : List Text → Type 0
AreUtf8 [] = ⊤
AreUtf8 (word ∷ words) = IsUtf8 word × AreUtf8 words

-- ---- what one word gives

-- the id of a parameter that the words give, with its value, which for a flag is `true`
abbrev pub Given : Type 0
Given = Text × Text

-- the parameter is given the value, if it takes it, before the rest
abbrev pub giving : Parameter → Text → Option (List Given) → Option (List Given)
giving p value rest = if takes p value then option_map (λ g. (id_of p, value) ∷ g) rest else None

-- a text goes to the first parameter whose place is free
abbrev pub giving_place : List Parameter → Text → (List Parameter → Option (List Given)) → Option (List Given)
giving_place [] word next = None
giving_place (p ∷ places) word next = giving p word (next places)

-- the option that the word names
abbrev pub option_named : List Parameter → Text → Option Parameter
option_named all name = find (λ p. not (is_positional p) && bytes_eq (id_of p) name) all

abbrev pub option_in : List Parameter → Text → Option Parameter
option_in all word = if starts_with nat_eq word (codes "--") then option_named all (name_in word) else None

-- no value follows a flag
abbrev pub giving_flag : Parameter → Option Text → Option (List Given) → Option (List Given)
giving_flag p None rest = option_map (λ g. (id_of p, codes "true") ∷ g) rest
giving_flag p (Some value) rest = None

-- the value of another option follows its `=`, or is the next word
abbrev pub giving_value : Parameter → Option Text → (Option Parameter → Option (List Given)) → Option (List Given)
giving_value p None next = next (Some p)
giving_value p (Some value) next = giving p value (next None)

abbrev pub giving_option : Option Parameter → Option Text → (Option Parameter → Option (List Given)) → Option (List Given)
giving_option None value next = None
giving_option (Some p) value next = if is_flag p then giving_flag p value (next None) else giving_value p value next

-- ---- what all the words give

-- after `--` each word is a text
abbrev pub texts_from : List Parameter → List Text → Option (List Given)
texts_from places [] = Some []
texts_from places (word ∷ words) = giving_place places word (λ rest. texts_from rest words)

-- what the words give, if these places are free and an option may wait for its value
abbrev pub given_from : List Parameter → List Parameter → Option Parameter → List Text → Option (List Given)
given_from all places None [] = Some []
given_from all places (Some p) [] = None
given_from all places (Some p) (word ∷ words) =
    if is_divider word || is_option word then None else giving p word (given_from all places None words)
given_from all places None (word ∷ words) =
    if is_divider word then texts_from places words
    else if is_option word then giving_option (option_in all word) (value_in word) (λ waiting. given_from all places waiting words)
    else giving_place places word (λ rest. given_from all rest None words)

-- the words give the parameter with this id
abbrev pub is_given : Text → List Given → Bool
is_given id given = list_any (λ g. bytes_eq g.0 id) given

-- no parameter is given twice
abbrev pub is_given_once : List Given → Bool
is_given_once [] = true
is_given_once (g ∷ rest) = not (is_given g.0 rest) && is_given_once rest

-- each parameter that has to be given is
abbrev pub has_required : List Parameter → List Given → Bool
has_required ps given = list_all (λ p. not (is_required p) || is_given (id_of p) given) ps

abbrev pub checked : List Parameter → Option (List Given) → Option (List Given)
checked ps None = None
checked ps (Some given) = if is_given_once given && has_required ps given then Some given else None

-- what the words give to the parameters, if there is no fault in them
abbrev pub given_in : List Parameter → List Text → Option (List Given)
given_in ps words = checked ps (given_from ps (filter is_positional ps) None words)

-- ---- what is given to a parameter

-- the value of the parameter with this id
abbrev pub value_given : Text → List Given → Option Text
value_given id given = option_map (λ g. g.1) (find (λ g. bytes_eq g.0 id) given)

abbrev pub text_given : Text → List Given → Text
text_given id given = unwrap_or (value_given id given) []

abbrev pub flag_given : Text → List Given → Bool
flag_given id given = bytes_eq (unwrap_or (value_given id given) (codes "false")) (codes "true")

-- the number, or `default` if it is left out
abbrev pub number_given : Text → ℕ → List Given → ℕ
number_given id default given = option_map_or number_of (value_given id given) default

-- the text of each parameter, in their order. If it is left out, it is the default
abbrev pub texts_given : List Parameter → List Given → List Text
texts_given ps given = map (λ p. unwrap_or (value_given (id_of p) given) (default_of p)) ps
