-- What is given to sound parameters is what they take. Used by the limits of numbers.
use Rattle.std.proofs.Common.{◌≡◌, ◌∙◌, Bool, true, false, not, refl, sym, subst, List, [], ◌∷◌, Option, Some, None, cond, codes}
use Rattle.std.specs.Prelude.{◌&&◌, ◌||◌, find, filter, option_map, unwrap_or, if◌then◌else◌, nat_eq}
use Rattle.std.specs.List.{list_all, list_any, starts_with}
use Rattle.std.specs.Option.{option_map_or}
use Rattle.std.specs.Str.{bytes_eq}
use Rattle.std.proofs.lemmas.Slice.Eq.{bytes_eq-Decides}
use Rattle.clap.specs.Words.{Text}
use Rattle.command_words.specs.Parameters.{Parameter, id_of, is_flag, is_positional, takes, have_distinct_ids}
use Rattle.command_words.specs.Texts.{Given, checked, given_from, given_in, giving, giving_flag, giving_option, giving_place, giving_value, has_required, is_divider, is_given_once, is_option, name_in, option_in, option_named, texts_from, value_given, value_in}
use Rattle.command_words.proofs.Built.{both_false, both_true, not-true}

-- the parameter with this id takes the value, or is a flag
abbrev pub is_taken : List Parameter → Given → Bool
is_taken ps g = option_map_or (λ p. is_flag p || takes p g.1) (find (λ p. bytes_eq (id_of p) g.0) ps) false

abbrev pub AreTaken : List Parameter → Option (List Given) → Type 0
AreTaken ps None = Unit
AreTaken ps (Some given) = list_all (is_taken ps) given ≡ true

-- ---- the parameter with an id

abbrev pub IsOwn : List Parameter → Parameter → Type 0
IsOwn ps p = find (λ q. bytes_eq (id_of q) (id_of p)) ps ≡ Some p

abbrev pub AreOwn : List Parameter → List Parameter → Type 0
AreOwn ps [] = Unit
AreOwn ps (q ∷ qs) = IsOwn ps q × AreOwn ps qs

own_past : (p : Parameter) (ps qs : List Parameter) → list_any (λ q. bytes_eq (id_of p) (id_of q)) qs ≡ false → AreOwn ps qs → AreOwn (p ∷ ps) qs
own_past p ps [] none own = tt
own_past p ps (q ∷ qs) none own =
    let n = both_false (bytes_eq (id_of p) (id_of q)) (list_any (λ q. bytes_eq (id_of p) (id_of q)) qs) none in
    ((λ i. cond (n.0 i) (Some p) (find (λ x. bytes_eq (id_of x) (id_of q)) ps)) ∙ own.0, own_past p ps qs n.1 own.1)

pub are_own : (ps : List Parameter) → have_distinct_ids ps ≡ true → AreOwn ps ps
are_own [] d = tt
are_own (p ∷ ps) d =
    let t = both_true (not (list_any (λ q. bytes_eq (id_of p) (id_of q)) ps)) (have_distinct_ids ps) d in (
      λ i. cond ((bytes_eq-Decides (id_of p) (id_of p)).1 refl i) (Some p) (find (λ x. bytes_eq (id_of x) (id_of p)) ps),
      own_past p ps ps (not-true (list_any (λ q. bytes_eq (id_of p) (id_of q)) ps) t.0) (are_own ps t.1),
    )

own_filter : (ps qs : List Parameter) → AreOwn ps qs → AreOwn ps (filter is_positional qs)
own_filter ps [] own = tt
own_filter ps (q ∷ qs) own = go (is_positional q) (own_filter ps qs own.1)
  where
    go : (b : Bool) → AreOwn ps (filter is_positional qs) → AreOwn ps (cond b (q ∷ filter is_positional qs) (filter is_positional qs))
    go true rest = (own.0, rest)
    go false rest = rest

own_found : (ps : List Parameter) (test : Parameter → Bool) (qs : List Parameter) (q : Parameter) → AreOwn ps qs → find test qs ≡ Some q → IsOwn ps q
own_found ps test [] q own e = cc
own_found ps test (p ∷ qs) q own e = go (test p) e (own_found ps test qs q own.1)
  where
    go : (b : Bool) → cond b (Some p) (find test qs) ≡ Some q → (find test qs ≡ Some q → IsOwn ps q) → IsOwn ps q
    go true e rest = let same : p ≡ q = cc in subst (IsOwn ps) same own.0
    go false e rest = rest e

-- ---- each step of the reading

more_taken : (ps : List Parameter) (g : Given) (rest : Option (List Given)) → is_taken ps g ≡ true → AreTaken ps rest → AreTaken ps (option_map (λ given. g ∷ given) rest)
more_taken ps g None e t = tt
more_taken ps g (Some given) e t = (λ i. e i && list_all (is_taken ps) given) ∙ t

giving_taken : (ps : List Parameter) (p : Parameter) (value : Text) (rest : Option (List Given)) → IsOwn ps p → AreTaken ps rest → AreTaken ps (giving p value rest)
giving_taken ps p value rest own t = go (takes p value) refl
  where
    or_true : (b : Bool) → (b || true) ≡ true
    or_true true = refl
    or_true false = refl

    go : (b : Bool) → takes p value ≡ b → AreTaken ps (if b then option_map (λ g. (id_of p, value) ∷ g) rest else None)
    go true e =
        more_taken ps (id_of p, value) rest
        ((λ i. option_map_or (λ q. is_flag q || takes q value) (own i) false) ∙ ((λ i. is_flag p || e i) ∙ or_true (is_flag p))) t
    go false e = tt

flag_taken : (ps : List Parameter) (p : Parameter) (value : Option Text) (rest : Option (List Given)) → IsOwn ps p → is_flag p ≡ true → AreTaken ps rest
    → AreTaken ps (giving_flag p value rest)
flag_taken ps p None rest own is t =
    more_taken ps (id_of p, codes "true") rest
    ((λ i. option_map_or (λ q. is_flag q || takes q (codes "true")) (own i) false) ∙ (λ i. is i || takes p (codes "true"))) t
flag_taken ps p (Some value) rest own is t = tt

place_taken : (ps places : List Parameter) (word : Text) (next : List Parameter → Option (List Given)) → AreOwn ps places
    → ((rest : List Parameter) → AreOwn ps rest → AreTaken ps (next rest)) → AreTaken ps (giving_place places word next)
place_taken ps [] word next own t = tt
place_taken ps (p ∷ places) word next own t = giving_taken ps p word (next places) own.0 (t places own.1)

-- what waits for its value is one of the parameters
abbrev Waits : List Parameter → Option Parameter → Type 0
Waits ps None = Unit
Waits ps (Some p) = IsOwn ps p

option_taken : (ps : List Parameter) (o : Option Parameter) (value : Option Text) (next : Option Parameter → Option (List Given))
    → Waits ps o → ((waiting : Option Parameter) → Waits ps waiting → AreTaken ps (next waiting)) → AreTaken ps (giving_option o value next)
option_taken ps None value next own t = tt
option_taken ps (Some p) value next own t = go (is_flag p) refl value
  where
    go : (b : Bool) → is_flag p ≡ b → (value : Option Text) → AreTaken ps (if b then giving_flag p value (next None) else giving_value p value next)
    go true e value = flag_taken ps p value (next None) own e (t None tt)
    go false e None = t (Some p) own
    go false e (Some value) = giving_taken ps p value (next None) own (t None tt)

named_own : (ps : List Parameter) (word : Text) → AreOwn ps ps → Waits ps (option_in ps word)
named_own ps word own = go (starts_with nat_eq word (codes "--")) (option_named ps (name_in word)) refl
  where
    go : (b : Bool) (o : Option Parameter) → option_named ps (name_in word) ≡ o → Waits ps (if b then option_named ps (name_in word) else None)
    go true None e = subst (Waits ps) (sym e) tt
    go true (Some q) e = subst (Waits ps) (sym e) (own_found ps (λ p. not (is_positional p) && bytes_eq (id_of p) (name_in word)) ps q own e)
    go false o e = tt

texts_taken : (ps : List Parameter) (words : List Text) (places : List Parameter) → AreOwn ps places → AreTaken ps (texts_from places words)
texts_taken ps [] places own = refl
texts_taken ps (w ∷ ws) places own = place_taken ps places w (λ rest. texts_from rest ws) own (texts_taken ps ws)

from_taken : (ps : List Parameter) → AreOwn ps ps → (words : List Text) (places : List Parameter) (waiting : Option Parameter) → AreOwn ps places → Waits ps waiting
    → AreTaken ps (given_from ps places waiting words)
from_taken ps all [] places None own waits = refl
from_taken ps all [] places (Some p) own waits = tt
from_taken ps all (w ∷ ws) places (Some p) own waits = go (is_divider w || is_option w) (giving_taken ps p w (given_from ps places None ws) waits (from_taken ps all ws places None own tt))
  where
    go : (b : Bool) → AreTaken ps (giving p w (given_from ps places None ws)) → AreTaken ps (if b then None else giving p w (given_from ps places None ws))
    go true t = tt
    go false t = t
from_taken ps all (w ∷ ws) places None own waits =
    go (is_divider w) (is_option w) (texts_taken ps ws places own)
    (option_taken ps (option_in ps w) (value_in w) (λ waiting. given_from ps places waiting ws) (named_own ps w all) (λ waiting. from_taken ps all ws places waiting own))
    (place_taken ps places w (λ rest. given_from ps rest None ws) own (λ rest o. from_taken ps all ws rest None o tt))
  where
    go : (divider option : Bool) → AreTaken ps (texts_from places ws)
        → AreTaken ps (giving_option (option_in ps w) (value_in w) (λ waiting. given_from ps places waiting ws))
        → AreTaken ps (giving_place places w (λ rest. given_from ps rest None ws))
        → AreTaken ps (if divider then texts_from places ws
        else if option then giving_option (option_in ps w) (value_in w) (λ waiting. given_from ps places waiting ws)
        else giving_place places w (λ rest. given_from ps rest None ws))
    go true option a b c = a
    go false true a b c = b
    go false false a b c = c

pub given-taken : (ps : List Parameter) (words : List Text) → have_distinct_ids ps ≡ true → AreTaken ps (given_in ps words)
given-taken ps words d = go (given_from ps (filter is_positional ps) None words) (from_taken ps (are_own ps d) words (filter is_positional ps) None (own_filter ps ps (are_own ps d)) tt)
  where
    keep : (b : Bool) (given : List Given) → list_all (is_taken ps) given ≡ true → AreTaken ps (if b then Some given else None)
    keep true given t = t
    keep false given t = tt

    go : (o : Option (List Given)) → AreTaken ps o → AreTaken ps (checked ps o)
    go None t = tt
    go (Some given) t = keep (is_given_once given && has_required ps given) given t

-- ---- the value of a parameter

-- the value that is given to a parameter, or its default, is one that it takes
pub value-taken : (ps : List Parameter) (p : Parameter) (given : List Given) (default : Text) → IsOwn ps p → is_flag p ≡ false → takes p default ≡ true
    → list_all (is_taken ps) given ≡ true → takes p (unwrap_or (value_given (id_of p) given) default) ≡ true
value-taken ps p [] default own no_flag fits t = fits
value-taken ps p (g ∷ given) default own no_flag fits t = go (bytes_eq g.0 (id_of p)) refl (value-taken ps p given default own no_flag fits parts.1)
  where
    parts : (is_taken ps g ≡ true) × (list_all (is_taken ps) given ≡ true)
    parts = both_true (is_taken ps g) (list_all (is_taken ps) given) t

    go : (b : Bool) → bytes_eq g.0 (id_of p) ≡ b → takes p (unwrap_or (value_given (id_of p) given) default) ≡ true
        → takes p (unwrap_or (option_map (λ g. g.1) (cond b (Some g) (find (λ g. bytes_eq g.0 (id_of p)) given))) default) ≡ true
    go true e rest =
        let same : g.0 ≡ id_of p = (bytes_eq-Decides g.0 (id_of p)).0 e in
        (λ i. sym no_flag i || takes p g.1)
        ∙ ((λ i. option_map_or (λ q. is_flag q || takes q g.1) (sym own i) false)
        ∙ ((λ i. option_map_or (λ q. is_flag q || takes q g.1) (find (λ q. bytes_eq (id_of q) (sym same i)) ps) false) ∙ parts.0))
    go false e rest = rest
