-- What the words of `search` give, and that its numbers are within their limits. Used by its law and by `read_search`.
use Rattle.std.proofs.Common.{◌≡◌, ◌∙◌, ◌≤◌, ◌^◌, ◌&&◌, ℕ, true, refl, sym, subst, List, [], ◌∷◌, Option, Some, None, nat_lt, codes}
use Rattle.std.specs.Prelude.{nat_le, option_map, unwrap_or, if◌then◌else◌, String}
use Rattle.std.specs.Global.{Global}
use Rattle.std.specs.List.{list_all}
use Rattle.std.specs.Str.{bytes_eq}
use Rattle.std.specs.Str.Parse.{digits_value, without_leading_plus}
use Rattle.std.proofs.lemmas.Bool.{leb-true}
use Rattle.std.proofs.lemmas.Str.{IsUtf8-string_bytes}
use Rattle.clap.specs.Words.{Text}
use Rattle.command_words.specs.Asked.{Command, search}
use Rattle.command_words.specs.Parameters.{text, number, flag, are_digits, is_number_in, number_of}
use Rattle.command_words.specs.Search.{search_by, search_in, search_of, search_parameters}
use Rattle.command_words.specs.Texts.{AreUtf8, Given, given_in, number_given, value_given}
use Rattle.command_words.specs.Words.{IsWithinLimits, bytes_of_words}
use Rattle.command_words.proofs.Built.{both_true}
use Rattle.command_words.proofs.Finding.{have_defaults, text-found}
use Rattle.command_words.proofs.Limits.{AreTaken, IsOwn, are_own, given-taken, is_taken, value-taken}
use Rattle.command_words.proofs.Sound.{is_sound, made-given, number_or, number-found}

pub search_in-given : (words : List Text) → AreUtf8 words → search_in words ≡ option_map search_of (given_in search_parameters words)
search_in-given =
    let ps = search_parameters in
    let d = have_defaults ps 1 refl in
    made-given (codes "search") ps search_by search_of (is_sound ps refl)
    (λ given i. search
    (text-found ps given (text (codes "array")) d.0 i)
    (text-found ps given (text (codes "query")) d.1.0 i)
    (number-found ps given (number (codes "solvers") 1 16 (codes "2")) d.1.1.0 i)
    (number-found ps given (number (codes "validators") 0 16 (codes "1")) d.1.1.1.0 i)
    (number-found ps given (number (codes "frames") 1 256 (codes "16")) d.1.1.1.1.0 i)
    (number-found ps given (number (codes "strips") 1 4096 (codes "1")) d.1.1.1.1.1.0 i)
    (bytes_eq (text-found ps given (flag (codes "summary")) d.1.1.1.1.1.1.0 i) (codes "true")))

-- ---- the limits

-- a text that is a number within limits has that number
number-within : (low high : ℕ) (word : Text) → is_number_in low high word ≡ true → (low ≤ number_of word) × (number_of word ≤ high)
number-within low high word e =
    let digits = without_leading_plus word in
    let n = digits_value 10 digits in
    let a = both_true (are_digits digits) (nat_lt n (2 ^ 64) && (nat_le low n && nat_le n high)) e in
    let b = both_true (nat_lt n (2 ^ 64)) (nat_le low n && nat_le n high) a.1 in
    let c = both_true (nat_le low n) (nat_le n high) b.1 in
    let is : n ≡ number_of word = λ i. if sym a.0 i && sym b.0 i then n else 0 in
    (subst (λ k. low ≤ k) is (leb-true low n c.0), subst (λ k. k ≤ high) is (leb-true n high c.1))

given-within : (id : Text) (low high : ℕ) (default : Text) (given : List Given) → IsOwn search_parameters (number id low high default)
    → is_number_in low high default ≡ true → list_all (is_taken search_parameters) given ≡ true
    → (low ≤ number_given id (number_of default) given) × (number_given id (number_of default) given ≤ high)
given-within id low high default given own fits taken =
    subst (λ k. (low ≤ k) × (k ≤ high)) (number_or (value_given id given) default)
    (number-within low high (unwrap_or (value_given id given) default)
    (value-taken search_parameters (number id low high default) given default own refl fits taken))

limits-given : (given : List Given) → list_all (is_taken search_parameters) given ≡ true → IsWithinLimits (search_of given)
limits-given given taken =
    let own = are_own search_parameters refl in
    let solvers = given-within (codes "solvers") 1 16 (codes "2") given own.1.1.0 refl taken in
    let validators = given-within (codes "validators") 0 16 (codes "1") given own.1.1.1.0 refl taken in
    let frames = given-within (codes "frames") 1 256 (codes "16") given own.1.1.1.1.0 refl taken in
    let strips = given-within (codes "strips") 1 4096 (codes "1") given own.1.1.1.1.1.0 refl taken in
    record {
      a_solver = solvers.0;
      most_solvers = solvers.1;
      most_validators = validators.1;
      a_frame = frames.0;
      most_frames = frames.1;
      a_strip = strips.0;
      most_strips = strips.1;
    }

limits-some : (o : Option (List Given)) (k : Command) → AreTaken search_parameters o → option_map search_of o ≡ Some k → IsWithinLimits k
limits-some None k taken e = cc
limits-some (Some given) k taken e = let same : search_of given ≡ k = cc in subst IsWithinLimits same (limits-given given taken)

pub search_in-within : (words : List Text) (k : Command) → AreUtf8 words → search_in words ≡ Some k → IsWithinLimits k
search_in-within words k u e =
    limits-some (given_in search_parameters words) k (given-taken search_parameters words refl) (sym (search_in-given words u) ∙ e)

pub words-utf8 : (words : List (String Global)) → AreUtf8 (bytes_of_words words)
words-utf8 [] = tt
words-utf8 (w ∷ ws) = (IsUtf8-string_bytes w, words-utf8 ws)
