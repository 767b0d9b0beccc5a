-- The law of sound parameters, and what it says of the commands. Used by the laws.
use Rattle.std.proofs.Common.{◌≡◌, ◌∙◌, ◌+◌, ◌<◌, ◌-◌, ◌^◌, true, refl, ap, List, [], ◌∷◌, length, Option, Some, None, nat_lt, ltb-true, ◌&&◌}
use Rattle.std.specs.Prelude.{filter, option_map, unwrap_or}
use Rattle.std.specs.List.{list_all}
use Rattle.std.specs.Option.{option_map_or}
use Rattle.clap.specs.Lexer.{usize_max}
use Rattle.clap.specs.Walk.{Row, Text}
use Rattle.command_words.specs.Parameters.{Parameter, id_of, is_positional, default_of, fits_default, have_distinct_ids, are_sound, number_of}
use Rattle.command_words.specs.Rules.{app_by}
use Rattle.command_words.specs.Rows.{rows_in, number_with_id, texts_found}
use Rattle.command_words.specs.Texts.{AreUtf8, Given, given_from, given_in, number_given, texts_given, value_given}
use Rattle.command_words.proofs.Giving.{found-given}
use Rattle.command_words.proofs.Built.{both_true, has_options, have_places, rules_from}
use Rattle.command_words.proofs.Finding.{HaveDefaults, all_rows, default_in, found-checked, have_defaults, text-found}

-- what sound parameters have
pub record IsSound (ps : List Parameter) : Type 0 where
  pub distinct : have_distinct_ids ps ≡ true
  pub defaults : list_all fits_default ps ≡ true
  pub few : 1 + length ps < usize_max

pub is_sound : (ps : List Parameter) → are_sound ps ≡ true → IsSound ps
is_sound ps sound =
    let a = both_true (have_distinct_ids ps) (list_all fits_default ps && nat_lt (1 + length ps) (2 ^ 64 - 1)) sound in
    let b = both_true (list_all fits_default ps) (nat_lt (1 + length ps) (2 ^ 64 - 1)) a.1 in
    record { distinct = a.0; defaults = b.0; few = ltb-true (1 + length ps) (2 ^ 64 - 1) b.1 }

-- what `clap` finds is what is given
pub rows-given : (name : Text) (ps : List Parameter) (words : List Text) → IsSound ps → AreUtf8 words
    → rows_in (app_by name ps) words ≡ option_map (all_rows ps) (given_in ps words)
rows-given name ps words sound u =
    found-given name (rules_from 1 ps) ps (has_options ps sound.distinct) words u (filter is_positional ps) (have_places ps sound.distinct sound.few)
    ∙ found-checked name ps (given_from ps (filter is_positional ps) None words) sound.defaults

-- and so of what is made of the rows
pub made-given : {X : Type 0} (name : Text) (ps : List Parameter) (by : List Row → X) (of : List Given → X) → IsSound ps
    → ((given : List Given) → by (all_rows ps given) ≡ of given)
    → (words : List Text) → AreUtf8 words → option_map by (rows_in (app_by name ps) words) ≡ option_map of (given_in ps words)
made-given name ps by of sound same words u = ap (option_map by) (rows-given name ps words sound u) ∙ go (given_in ps words)
  where
    go : (o : Option (List Given)) → option_map by (option_map (all_rows ps) o) ≡ option_map of o
    go None = refl
    go (Some given) = ap Some (same given)

-- the texts of some of the parameters
texts-of : (ps : List Parameter) (given : List Given) (qs : List Parameter) → HaveDefaults (rules_from 1 ps) qs
    → texts_found qs (all_rows ps given) ≡ texts_given qs given
texts-of ps given [] d = refl
texts-of ps given (q ∷ qs) d = λ i. text-found ps given q d.0 i ∷ texts-of ps given qs d.1 i

pub texts-given : (name : Text) (ps : List Parameter) (words : List Text) → are_sound ps ≡ true → AreUtf8 words
    → option_map (texts_found ps) (rows_in (app_by name ps) words) ≡ option_map (texts_given ps) (given_in ps words)
texts-given name ps words sound u =
    let s = is_sound ps sound in
    made-given name ps (texts_found ps) (texts_given ps) s (λ given. texts-of ps given ps (have_defaults ps 1 s.distinct)) words u

pub number_or : (o : Option Text) (default : Text) → number_of (unwrap_or o default) ≡ option_map_or number_of o (number_of default)
number_or None default = refl
number_or (Some value) default = refl

-- the number of a parameter
pub number-found : (ps : List Parameter) (given : List Given) (p : Parameter) → default_in (id_of p) (rules_from 1 ps) ≡ default_of p
    → number_with_id (id_of p) (all_rows ps given) ≡ number_given (id_of p) (number_of (default_of p)) given
number-found ps given p default = ap number_of (text-found ps given p default) ∙ number_or (value_given (id_of p) given) (default_of p)
