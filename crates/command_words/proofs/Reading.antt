-- What a parse by a command's rules says of the words. Used by the functions that read them.
use Rattle.std.proofs.Common.{◌≡◌, ◌∙◌, ◌^◌, ◌&&◌, ℕ, Bool, true, false, sym, ap, List, [], ◌∷◌, length, refl, Some, None, Result, Ok, Err, inl, inr, nat_lt, lt-ltb, ltb-true}
use Rattle.std.specs.Result.{result_unwrap_or}
use Rattle.std.specs.List.{list_all}
use Rattle.std.specs.Char.{digit_value}
use Rattle.std.specs.Str.Parse.{AllDigits, ParsesUnsigned, digits_value, without_leading_plus}
use Rattle.command_words.specs.Asked.{Command}
use Rattle.command_words.specs.Parameters.{are_digits, number_of}
use Rattle.std.specs.Prelude.{option_map}
use Rattle.clap.specs.Words.{App, HasKind, HasMatchesOf, Kinds, Row, Text, fault_of, found_of, is_simple, is_simple_and_free, kind_of, matches_of, rows_of}
use Rattle.clap.specs.declared.error.Error.{Error}
use Rattle.clap.specs.declared.error.kind.ErrorKind.TheVariants.{OutOfMemory}
use Rattle.clap.specs.declared.parser.matches.ArgMatches.{ArgMatches}
use Rattle.clap.proofs.WalkLemmas.{both}
use Rattle.command_words.specs.Rows.{rows_in, unless_fault}

-- matches of words without a fault have their rows
pub rows_in-ok : (a : App) (words : List Text) (m : ArgMatches) → is_simple_and_free a ≡ true → fault_of a words ≡ [] → HasMatchesOf a words m
    → rows_in a words ≡ Some (rows_of (found_of m))
rows_in-ok a words m simple none found =
    (λ i. unless_fault (none i) (matches_of a words)) ∙ ap Some (sym (found (both (is_simple a) _ simple).0).0)

unless_fault-some : (kinds : Kinds) (rows : List Row) (e : Error) → HasKind kinds e → (kind_of e ≡ OutOfMemory → ⊥) → unless_fault kinds rows ≡ None
unless_fault-some [] rows e (inl memory) other = absurd (other memory)
unless_fault-some [] rows e (inr none) other = absurd none
unless_fault-some (k ∷ ks) rows e h other = refl

-- if there was an error other than out of memory, the words have no rows
pub rows_in-none : (a : App) (words : List Text) (e : Error) → HasKind (fault_of a words) e → (kind_of e ≡ OutOfMemory → ⊥) → rows_in a words ≡ None
rows_in-none a words e h other = unless_fault-some (fault_of a words) (matches_of a words) e h other

-- a command is made of the rows that its rules found
pub made_of : (by : List Row → Command) (rules a : App) (words : List Text) (rows : List Row) → a ≡ rules → rows_in a words ≡ Some rows
    → option_map by (rows_in rules words) ≡ Some (by rows)
made_of by rules a words rows same found = ap (option_map by) (ap (λ x. rows_in x words) (sym same) ∙ found)

-- ---- numbers

digits_pass : (ds : List ℕ) → AllDigits 10 ds → list_all (λ d. nat_lt (digit_value d) 10) ds ≡ true
digits_pass [] h = refl
digits_pass (d ∷ ds) h = rw (lt-ltb (digit_value d) 10 h.0) (digits_pass ds h.1)

digits_from : (ds : List ℕ) → list_all (λ d. nat_lt (digit_value d) 10) ds ≡ true → AllDigits 10 ds
digits_from [] e = tt
digits_from (d ∷ ds) e =
    let parts = both _ _ e in
    (ltb-true _ _ parts.0, digits_from ds parts.1)

abbrev is_number : List ℕ → Bool
is_number ds = are_digits ds && nat_lt (digits_value 10 ds) (2 ^ 64)

-- the number that was parsed is the number of the text
pub number_parsed : {E : Type 0} (text : Text) (r : Result ℕ E) → ParsesUnsigned 64 10 text r → result_unwrap_or r 0 ≡ number_of text
number_parsed text (Ok n) h =
    let ds = without_leading_plus text in
    rw (lt-ltb 0 (length ds) h.0.0.0, digits_pass ds h.0.0.1, lt-ltb (digits_value 10 ds) (2 ^ 64) h.0.1) h.1
number_parsed text (Err e) h = go (is_number (without_leading_plus text)) refl
  where
    go : (b : Bool) → is_number (without_leading_plus text) ≡ b → 0 ≡ number_of text
    go false t = rw t refl
    go true t =
        let outer = both _ _ t in
        let inner = both _ _ outer.0 in
        absurd (h ((ltb-true _ _ inner.0, digits_from (without_leading_plus text) inner.1), ltb-true _ _ outer.1))
