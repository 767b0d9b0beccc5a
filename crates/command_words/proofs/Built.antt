-- What `clap` looks up among the rules of sound parameters. Used by the law of parameters.
use Rattle.std.proofs.Common.{◌≡◌, ◌∙◌, ◌+◌, ◌<◌, ℕ, suc, Bool, true, false, not, refl, subst, arith, List, [], ◌∷◌, map, length, Option, Some, None, cond}
use Rattle.std.specs.Prelude.{◌==◌, ◌&&◌, ◌||◌, min, filter, find, option_map}
use Rattle.std.specs.List.{list_any}
use Rattle.std.specs.Option.{option_map_or}
use Rattle.std.specs.Str.{bytes_eq}
use Rattle.std.proofs.lemmas.Slice.Eq.{bytes_eq-Decides}
use Rattle.std.proofs.lemmas.Bool.Decides.{Decides-eqb}
use Rattle.std.proofs.lemmas.Bool.{ne_eqb}
use Rattle.clap.specs.Lexer.{usize_max}
use Rattle.clap.specs.Walk.{Rule, Text, arg_by_id, arg_by_index, arg_by_long, arg_by_short}
use Rattle.clap.specs.Simple.{filled_from}
use Rattle.command_words.specs.Parameters.{Parameter, text, positional_number, flag, number, required_number, id_of, is_flag, is_positional, have_distinct_ids}
use Rattle.command_words.specs.Rules.{rule_by}
use Rattle.command_words.specs.Texts.{option_named}
use Rattle.command_words.proofs.Places.{HavePlaces, IsKnown, placed, placed-id}
use Rattle.command_words.proofs.Giving.{HasOptions}

-- the rules of these parameters in a command that is built, with places from i on
abbrev pub rules_from : ℕ → List Parameter → List Rule
rules_from i ps = filled_from i (map rule_by ps)

pub both_false : (a b : Bool) → (a || b) ≡ false → (a ≡ false) × (b ≡ false)
both_false true b e = cc
both_false false b e = (refl, e)

pub both_true : (a b : Bool) → (a && b) ≡ true → (a ≡ true) × (b ≡ true)
both_true true b e = (refl, e)
both_true false b e = cc

pub not-true : (a : Bool) → not a ≡ true → a ≡ false
not-true true e = cc
not-true false e = refl

-- ---- short and long options

no_short : (ps : List Parameter) (i x : ℕ) → arg_by_short (rules_from i ps) x ≡ None
no_short [] i x = refl
no_short (text id ∷ ps) i x = no_short ps (min (i + 1) usize_max) x
no_short (positional_number id low high ∷ ps) i x = no_short ps (min (i + 1) usize_max) x
no_short (flag id ∷ ps) i x = no_short ps i x
no_short (number id low high default ∷ ps) i x = no_short ps i x
no_short (required_number id low high ∷ ps) i x = no_short ps i x

long_more : (p : Parameter) (b : Bool) (rules : Option Rule) (rest : Option Parameter) → rules ≡ option_map (λ q. placed q 0) rest
    → cond (b || false) (Some (placed p 0)) rules ≡ option_map (λ q. placed q 0) (cond b (Some p) rest)
long_more p true rules rest e = refl
long_more p false rules rest e = e

by_long : (ps : List Parameter) (i : ℕ) (name : Text) → arg_by_long (rules_from i ps) name ≡ option_map (λ q. placed q 0) (option_named ps name)
by_long [] i name = refl
by_long (text id ∷ ps) i name = by_long ps (min (i + 1) usize_max) name
by_long (positional_number id low high ∷ ps) i name = by_long ps (min (i + 1) usize_max) name
by_long (flag id ∷ ps) i name = long_more (flag id) (bytes_eq id name) (arg_by_long (rules_from i ps) name) (option_named ps name) (by_long ps i name)
by_long (number id low high default ∷ ps) i name =
    long_more (number id low high default) (bytes_eq id name) (arg_by_long (rules_from i ps) name) (option_named ps name) (by_long ps i name)
by_long (required_number id low high ∷ ps) i name =
    long_more (required_number id low high) (bytes_eq id name) (arg_by_long (rules_from i ps) name) (option_named ps name) (by_long ps i name)

-- ---- ids

-- each parameter's own rule is the one with its id
abbrev pub AreKnown : List Rule → List Parameter → Type 0
AreKnown c [] = Unit
AreKnown c (p ∷ ps) = IsKnown c p × AreKnown c ps

known_past : (r : Rule) (c : List Rule) (p : Parameter) → r.id ≡ id_of p → (qs : List Parameter) → list_any (λ q. bytes_eq (id_of p) (id_of q)) qs ≡ false
    → AreKnown c qs → AreKnown (r ∷ c) qs
known_past r c p same [] other k = tt
known_past r c p same (q ∷ qs) other k =
    let apart = both_false (bytes_eq (id_of p) (id_of q)) (list_any (λ q. bytes_eq (id_of p) (id_of q)) qs) other in (
      (k.0.0, (λ i. cond (bytes_eq (same i) (id_of q)) (Some r) (arg_by_id c (id_of q))) ∙ ((λ i. cond (apart.0 i) (Some r) (arg_by_id c (id_of q))) ∙ k.0.1)),
      known_past r c p same qs apart.1 k.1,
    )

known_here : (p : Parameter) (i : ℕ) (c : List Rule) → IsKnown (placed p i ∷ c) p
known_here p i c = (
  i,
  (λ j. cond (bytes_eq (placed-id p i j) (id_of p)) (Some (placed p i)) (arg_by_id c (id_of p)))
      ∙ (λ j. cond ((bytes_eq-Decides (id_of p) (id_of p)).1 refl j) (Some (placed p i)) (arg_by_id c (id_of p))),
)

known_more : (p : Parameter) (i : ℕ) (c : List Rule) (ps : List Parameter) → have_distinct_ids (p ∷ ps) ≡ true → AreKnown c ps → AreKnown (placed p i ∷ c) (p ∷ ps)
known_more p i c ps distinct k =
    let d = both_true (not (list_any (λ q. bytes_eq (id_of p) (id_of q)) ps)) (have_distinct_ids ps) distinct in
    (known_here p i c, known_past (placed p i) c p (placed-id p i) ps (not-true (list_any (λ q. bytes_eq (id_of p) (id_of q)) ps) d.0) k)

distinct_rest : (p : Parameter) (ps : List Parameter) → have_distinct_ids (p ∷ ps) ≡ true → have_distinct_ids ps ≡ true
distinct_rest p ps d = (both_true (not (list_any (λ q. bytes_eq (id_of p) (id_of q)) ps)) (have_distinct_ids ps) d).1

are_known : (ps : List Parameter) (i : ℕ) → have_distinct_ids ps ≡ true → AreKnown (rules_from i ps) ps
are_known [] i d = tt
are_known (text id ∷ ps) i d = known_more (text id) i (rules_from (min (i + 1) usize_max) ps) ps d (are_known ps (min (i + 1) usize_max) (distinct_rest (text id) ps d))
are_known (positional_number id low high ∷ ps) i d =
    known_more (positional_number id low high) i (rules_from (min (i + 1) usize_max) ps) ps d (are_known ps (min (i + 1) usize_max) (distinct_rest (positional_number id low high) ps d))
are_known (flag id ∷ ps) i d = known_more (flag id) i (rules_from i ps) ps d (are_known ps i (distinct_rest (flag id) ps d))
are_known (number id low high default ∷ ps) i d =
    known_more (number id low high default) i (rules_from i ps) ps d (are_known ps i (distinct_rest (number id low high default) ps d))
are_known (required_number id low high ∷ ps) i d =
    known_more (required_number id low high) i (rules_from i ps) ps d (are_known ps i (distinct_rest (required_number id low high) ps d))

known_found : (c : List Rule) (test : Parameter → Bool) (ps : List Parameter) (q : Parameter) → AreKnown c ps → find test ps ≡ Some q → IsKnown c q
known_found c test [] q k e = cc
known_found c test (p ∷ ps) q k e = go (test p) e (known_found c test ps q k.1)
  where
    go : (b : Bool) → cond b (Some p) (find test ps) ≡ Some q → (find test ps ≡ Some q → IsKnown c q) → IsKnown c q
    go true e rest = let same : p ≡ q = cc in subst (IsKnown c) same k.0
    go false e rest = rest e

pub has_options : (ps : List Parameter) → have_distinct_ids ps ≡ true → HasOptions (rules_from 1 ps) ps
has_options ps d = record {
  short = no_short ps 1;
  long = by_long ps 1;
  known = λ name q e. known_found (rules_from 1 ps) (λ p. not (is_positional p) && bytes_eq (id_of p) name) ps q (are_known ps 1 d) e;
}

-- ---- places

abbrev AtPlaces : List Rule → ℕ → List Parameter → Type 0
AtPlaces c i [] = arg_by_index c i ≡ None
AtPlaces c i (p ∷ ps) = (arg_by_index c i ≡ Some (placed p i)) × AtPlaces c (min (i + 1) usize_max) ps

below_next : (i j m : ℕ) → i < j → i < m → i < min (j + 1) m
below_next i j m h k = omega arith

next_fits : (i n m : ℕ) → i + suc n < m → min (i + 1) m + n < m
next_fits i n m h = omega arith

same_fits : (i n m : ℕ) → i + suc n < m → i + n < m
same_fits i n m h = omega arith

is_below : (i n m : ℕ) → i + suc n < m → i < m
is_below i n m h = omega arith

is_next : (i n m : ℕ) → i + suc n < m → i < min (i + 1) m
is_next i n m h = omega arith

past_place : (r : Rule) (c : List Rule) (i j : ℕ) (ps : List Parameter) → r.index ≡ Some i → i < j → i < usize_max → AtPlaces c j ps → AtPlaces (r ∷ c) j ps
past_place r c i j [] index h k at =
    (λ t. cond (option_map_or (λ k. k == j) (index t) false) (Some r) (arg_by_index c j))
    ∙ ((λ t. cond (ne_eqb i j (λ e. omega arith) t) (Some r) (arg_by_index c j)) ∙ at)
past_place r c i j (p ∷ ps) index h k at = (
  (λ t. cond (option_map_or (λ k. k == j) (index t) false) (Some r) (arg_by_index c j))
      ∙ ((λ t. cond (ne_eqb i j (λ e. omega arith) t) (Some r) (arg_by_index c j)) ∙ at.0),
  past_place r c i (min (j + 1) usize_max) ps index (below_next i j usize_max h k) k at.1,
)

past_option : (r : Rule) (c : List Rule) (j : ℕ) (ps : List Parameter) → r.index ≡ None → AtPlaces c j ps → AtPlaces (r ∷ c) j ps
past_option r c j [] index at = (λ t. cond (option_map_or (λ k. k == j) (index t) false) (Some r) (arg_by_index c j)) ∙ at
past_option r c j (p ∷ ps) index at = (
  (λ t. cond (option_map_or (λ k. k == j) (index t) false) (Some r) (arg_by_index c j)) ∙ at.0,
  past_option r c (min (j + 1) usize_max) ps index at.1,
)

own_place : (r : Rule) (c : List Rule) (i : ℕ) → r.index ≡ Some i → arg_by_index (r ∷ c) i ≡ Some r
own_place r c i index =
    (λ t. cond (option_map_or (λ k. k == i) (index t) false) (Some r) (arg_by_index c i))
    ∙ (λ t. cond ((Decides-eqb i i).1 refl t) (Some r) (arg_by_index c i))

at_places : (ps : List Parameter) (i : ℕ) → i + length ps < usize_max → AtPlaces (rules_from i ps) i (filter is_positional ps)
at_places [] i h = refl
at_places (text id ∷ ps) i h =
    let next = min (i + 1) usize_max in (
      own_place (placed (text id) i) (rules_from next ps) i refl,
      past_place (placed (text id) i) (rules_from next ps) i next (filter is_positional ps) refl (is_next i (length ps) usize_max h) (is_below i (length ps) usize_max h)
          (at_places ps next (next_fits i (length ps) usize_max h)),
    )
at_places (positional_number id low high ∷ ps) i h =
    let next = min (i + 1) usize_max in
    let r = placed (positional_number id low high) i in (
      own_place r (rules_from next ps) i refl,
      past_place r (rules_from next ps) i next (filter is_positional ps) refl (is_next i (length ps) usize_max h) (is_below i (length ps) usize_max h)
          (at_places ps next (next_fits i (length ps) usize_max h)),
    )
at_places (flag id ∷ ps) i h =
    past_option (placed (flag id) i) (rules_from i ps) i (filter is_positional ps) refl (at_places ps i (same_fits i (length ps) usize_max h))
at_places (number id low high default ∷ ps) i h =
    past_option (placed (number id low high default) i) (rules_from i ps) i (filter is_positional ps) refl (at_places ps i (same_fits i (length ps) usize_max h))
at_places (required_number id low high ∷ ps) i h =
    past_option (placed (required_number id low high) i) (rules_from i ps) i (filter is_positional ps) refl (at_places ps i (same_fits i (length ps) usize_max h))

known_positional : (c : List Rule) (ps : List Parameter) → AreKnown c ps → AreKnown c (filter is_positional ps)
known_positional c [] k = tt
known_positional c (text id ∷ ps) k = (k.0, known_positional c ps k.1)
known_positional c (positional_number id low high ∷ ps) k = (k.0, known_positional c ps k.1)
known_positional c (flag id ∷ ps) k = known_positional c ps k.1
known_positional c (number id low high default ∷ ps) k = known_positional c ps k.1
known_positional c (required_number id low high ∷ ps) k = known_positional c ps k.1

-- no flag has a place
abbrev HaveNoFlag : List Parameter → Type 0
HaveNoFlag [] = Unit
HaveNoFlag (p ∷ ps) = (is_flag p ≡ false) × HaveNoFlag ps

no_flag : (ps : List Parameter) → HaveNoFlag (filter is_positional ps)
no_flag [] = tt
no_flag (text id ∷ ps) = (refl, no_flag ps)
no_flag (positional_number id low high ∷ ps) = (refl, no_flag ps)
no_flag (flag id ∷ ps) = no_flag ps
no_flag (number id low high default ∷ ps) = no_flag ps
no_flag (required_number id low high ∷ ps) = no_flag ps

joined : (c : List Rule) (i : ℕ) (ps : List Parameter) → AtPlaces c i ps → HaveNoFlag ps → AreKnown c ps → HavePlaces c i ps
joined c i [] at none k = at
joined c i (p ∷ ps) at none k = (at.0, none.0, k.0, joined c (min (i + 1) usize_max) ps at.1 none.1 k.1)

pub have_places : (ps : List Parameter) → have_distinct_ids ps ≡ true → 1 + length ps < usize_max → HavePlaces (rules_from 1 ps) 1 (filter is_positional ps)
have_places ps d h =
    joined (rules_from 1 ps) 1 (filter is_positional ps) (at_places ps 1 h) (no_flag ps) (known_positional (rules_from 1 ps) ps (are_known ps 1 d))
