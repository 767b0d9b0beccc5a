-- The rows of what is given to sound parameters. Used by the law of parameters.
use Rattle.std.proofs.Common.{◌≡◌, ◌∙◌, ◌+◌, ◌++◌, ℕ, Bool, true, false, not, refl, sym, ap, List, [], ◌∷◌, map, Option, Some, None, cond, codes, append-nil, append_assoc}
use Rattle.std.specs.Prelude.{◌&&◌, ◌||◌, min, find, fold, slice_get, option_map, option_and_then, unwrap_or, if◌then◌else◌}
use Rattle.std.specs.List.{list_all, list_any}
use Rattle.std.specs.Option.{option_map_or}
use Rattle.std.specs.Str.{bytes_eq}
use Rattle.std.proofs.lemmas.Slice.Eq.{bytes_eq-Decides}
use Rattle.clap.specs.Lexer.{usize_max}
use Rattle.clap.specs.Facts.{explicit_source}
use Rattle.clap.specs.Kinds.{or_else}
use Rattle.clap.specs.Faults.{check_fault, default_fault, defaults_fault, given_default_fault}
use Rattle.clap.specs.Takes.{is_given as is_used}
use Rattle.clap.specs.Walk.{Row, Rule, Text, at_row, default_rows, has_row, more_values, reading_by, with_default, with_values}
use Rattle.clap.specs.declared.error.kind.ErrorKind.TheVariants as kind
use Rattle.clap.specs.declared.builder.value_parser.Reading.{Reading}
use Rattle.clap.specs.declared.builder.value_parser.Reading.TheVariants.{AsWritten}
use Rattle.clap.specs.declared.parser.matches.ValueSource.{ValueSource}
use Rattle.clap.specs.declared.parser.matches.ValueSource.TheVariants.{CommandLine, DefaultValue}
use Rattle.command_words.specs.Parameters.{Parameter, text, positional_number, flag, number, required_number, id_of, is_required, default_of, fits_default, have_distinct_ids}
use Rattle.command_words.specs.Rows.{text_with_id, unless_fault}
use Rattle.command_words.specs.Texts.{Given, checked, has_required, is_given, is_given_once, value_given}
use Rattle.command_words.proofs.Places.{after, placed, placed-id, placed-required, row_added}
use Rattle.command_words.proofs.Walks.{end_rows, top_of}
use Rattle.command_words.proofs.Giving.{found_by, found_from}
use Rattle.command_words.proofs.Built.{both_false, both_true, not-true, rules_from}

-- a row of one value
abbrev pub row_by : Text → Text → ValueSource → Reading → Row
row_by id value source how = record { id = id; values = value ∷ []; count = None; source = Some source; reading = how }

-- the row of what is given
abbrev pub row_of : Given → Row
row_of g = row_by g.0 g.1 CommandLine AsWritten

abbrev pub rows_of : List Given → List Row
rows_of given = map row_of given

-- ---- one row more

at_row-none : (id : Text) (change : Row → List Row) (missing rows : List Row) → has_row id rows ≡ false → at_row id change missing rows ≡ rows ++ missing
at_row-none id change missing [] none = refl
at_row-none id change missing (r ∷ rs) none =
    let n = both_false (bytes_eq r.id id) (has_row id rs) none in
    (λ i. if n.0 i then change r ++ rs else r ∷ at_row id change missing rs) ∙ ap (λ rest. r ∷ rest) (at_row-none id change missing rs n.1)

with_values-none : (id value : Text) (how : Reading) (source : ValueSource) (rows : List Row) → has_row id rows ≡ false
    → with_values id how source (value ∷ []) rows ≡ rows ++ row_by id value source how ∷ []
with_values-none id value how source rows none = at_row-none id (more_values source (value ∷ [])) (row_by id value source how ∷ []) rows none

row_added-none : (id value : Text) (rows : List Row) → has_row id rows ≡ false → row_added id value rows ≡ rows ++ row_of (id, value) ∷ []
row_added-none id value rows none =
    ap (with_values id AsWritten CommandLine (value ∷ [])) (at_row-none id (λ _. []) [] rows none ∙ append-nil rows)
    ∙ with_values-none id value AsWritten CommandLine rows none

has_row-more : (id : Text) (rows : List Row) (r : Row) → has_row id (rows ++ r ∷ []) ≡ (has_row id rows || bytes_eq r.id id)
has_row-more id [] r = go (bytes_eq r.id id)
  where
    go : (b : Bool) → (b || false) ≡ b
    go true = refl
    go false = refl
has_row-more id (x ∷ xs) r = ap (λ b. bytes_eq x.id id || b) (has_row-more id xs r) ∙ go (bytes_eq x.id id)
  where
    go : (b : Bool) → (b || (has_row id xs || bytes_eq r.id id)) ≡ ((b || has_row id xs) || bytes_eq r.id id)
    go true = refl
    go false = refl

pub bytes_eq-sym : (x y : Text) → bytes_eq x y ≡ bytes_eq y x
bytes_eq-sym x y = go (bytes_eq x y) refl (bytes_eq y x) refl
  where
    go : (a : Bool) → bytes_eq x y ≡ a → (b : Bool) → bytes_eq y x ≡ b → bytes_eq x y ≡ bytes_eq y x
    go true e true f = e ∙ sym f
    go true e false f = e ∙ sym ((bytes_eq-Decides y x).1 (sym ((bytes_eq-Decides x y).0 e)))
    go false e true f = (bytes_eq-Decides x y).1 (sym ((bytes_eq-Decides y x).0 f)) ∙ sym f
    go false e false f = e ∙ sym f

-- ---- no id is used twice

-- none of these ids has a row
abbrev are_new : List Row → List Given → Bool
are_new rows given = list_all (λ g. not (has_row g.0 rows)) given

new_tests : (row same new given : Bool) → (not (row || same) && (new && not given)) ≡ ((not row && new) && not (same || given))
new_tests true true new given = refl
new_tests true false new given = refl
new_tests false true true given = refl
new_tests false true false given = refl
new_tests false false new given = refl

are_new-more : (rows : List Row) (x : Given) (given : List Given) → are_new (rows ++ row_of x ∷ []) given ≡ (are_new rows given && not (is_given x.0 given))
are_new-more rows x [] = refl
are_new-more rows x (g ∷ given) =
    (λ i. not ((has_row-more g.0 rows (row_of x) ∙ ap (λ b. has_row g.0 rows || b) (bytes_eq-sym x.0 g.0)) i) && are_new-more rows x given i)
    ∙ new_tests (has_row g.0 rows) (bytes_eq g.0 x.0) (are_new rows given) (is_given x.0 given)

pub found_from-rows : (name : Text) (c : List Rule) (rows : List Row) (given : List Given)
    → found_from name c rows given ≡ (if is_given_once given && are_new rows given then end_rows name c (rows ++ rows_of given) else None)
found_from-rows name c rows [] = ap (end_rows name c) (sym (append-nil rows))
found_from-rows name c rows (g ∷ given) = go (has_row g.0 rows) refl (found_from-rows name c (rows ++ row_of g ∷ []) given)
  where
    same_tests : (once again new : Bool) (o : Option (List Row)) → (if once && (new && not again) then o else None) ≡ (if (not again && once) && (true && new) then o else None)
    same_tests true true true o = refl
    same_tests true true false o = refl
    same_tests true false true o = refl
    same_tests true false false o = refl
    same_tests false true new o = refl
    same_tests false false new o = refl

    no_tests : (b : Bool) (o : Option (List Row)) → None ≡ (if b && false then o else None)
    no_tests true o = refl
    no_tests false o = refl

    go : (b : Bool) → has_row g.0 rows ≡ b
        → found_from name c (rows ++ row_of g ∷ []) given
        ≡ (if is_given_once given && are_new (rows ++ row_of g ∷ []) given then end_rows name c ((rows ++ row_of g ∷ []) ++ rows_of given) else None)
        → found_from name c rows (g ∷ given) ≡ (if (not (is_given g.0 given) && is_given_once given) && (not (has_row g.0 rows) && are_new rows given) then end_rows name c (rows ++ row_of g ∷ rows_of given) else None)
    go true e rest =
        (λ i. after (if e i && true then kind.ArgumentConflict ∷ [] else []) (found_from name c (row_added g.0 g.1 rows) given))
        ∙ (no_tests (not (is_given g.0 given) && is_given_once given) (end_rows name c (rows ++ row_of g ∷ rows_of given))
        ∙ (λ i. if (not (is_given g.0 given) && is_given_once given) && (not (sym e i) && are_new rows given) then end_rows name c (rows ++ row_of g ∷ rows_of given) else None))
    go false e rest =
        (λ i. after (if e i && true then kind.ArgumentConflict ∷ [] else []) (found_from name c (row_added-none g.0 g.1 rows e i) given))
        ∙ (rest
        ∙ ((λ i. if is_given_once given && are_new-more rows g given i then end_rows name c (append_assoc rows (row_of g ∷ []) (rows_of given) i) else None)
        ∙ (same_tests (is_given_once given) (is_given g.0 given) (are_new rows given) (end_rows name c (rows ++ row_of g ∷ rows_of given))
        ∙ (λ i. if (not (is_given g.0 given) && is_given_once given) && (not (sym e i) && are_new rows given) then end_rows name c (rows ++ row_of g ∷ rows_of given) else None))))

-- ---- defaults

default_fits : (rows : List Row) (p : Parameter) (i : ℕ) → fits_default p ≡ true → default_fault rows (placed p i) ≡ []
default_fits rows (text id) i e = go (has_row id rows)
  where
    go : (b : Bool) → (if b || true then [] else given_default_fault (placed (text id) i) []) ≡ []
    go true = refl
    go false = refl
default_fits rows (positional_number id low high) i e = go (has_row id rows)
  where
    go : (b : Bool) → (if b || true then [] else given_default_fault (placed (positional_number id low high) i) []) ≡ []
    go true = refl
    go false = refl
default_fits rows (flag id) i e = go (has_row id rows)
  where
    go : (b : Bool) → (if b || false then [] else given_default_fault (placed (flag id) i) (codes "false" ∷ [])) ≡ []
    go true = refl
    go false = refl
default_fits rows (number id low high default) i e = go (has_row id rows)
  where
    go : (b : Bool) → (if b || false then [] else or_else (if fits_default (number id low high default) then [] else kind.ValueValidation ∷ []) []) ≡ []
    go true = refl
    go false = λ j. or_else (if e j then [] else kind.ValueValidation ∷ []) []
default_fits rows (required_number id low high) i e = go (has_row id rows)
  where
    go : (b : Bool) → (if b || true then [] else given_default_fault (placed (required_number id low high) i) []) ≡ []
    go true = refl
    go false = refl

defaults_more : (p : Parameter) (i : ℕ) (rows : List Row) (c : List Rule) → fits_default p ≡ true → ((rows : List Row) → defaults_fault rows c ≡ [])
    → defaults_fault rows (placed p i ∷ c) ≡ []
unfolding defaults_fault
defaults_more p i rows c e rest =
    (λ j. or_else (default_fits rows p i e j) (defaults_fault (with_default rows (placed p i)) c)) ∙ rest (with_default rows (placed p i))

no_defaults : (rows : List Row) → defaults_fault rows [] ≡ []
unfolding defaults_fault
no_defaults rows = refl

defaults_fit : (ps : List Parameter) (i : ℕ) → list_all fits_default ps ≡ true → (rows : List Row) → defaults_fault rows (rules_from i ps) ≡ []
defaults_fit [] i e rows = no_defaults rows
defaults_fit (text id ∷ ps) i e rows = defaults_more (text id) i rows (rules_from (min (i + 1) usize_max) ps) refl (defaults_fit ps (min (i + 1) usize_max) e)
defaults_fit (positional_number id low high ∷ ps) i e rows = defaults_more (positional_number id low high) i rows (rules_from (min (i + 1) usize_max) ps) refl (defaults_fit ps (min (i + 1) usize_max) e)
defaults_fit (flag id ∷ ps) i e rows = defaults_more (flag id) i rows (rules_from i ps) refl (defaults_fit ps i e)
defaults_fit (number id low high default ∷ ps) i e rows =
    let d = both_true (fits_default (number id low high default)) (list_all fits_default ps) e in
    defaults_more (number id low high default) i rows (rules_from i ps) d.0 (defaults_fit ps i d.1)
defaults_fit (required_number id low high ∷ ps) i e rows = defaults_more (required_number id low high) i rows (rules_from i ps) refl (defaults_fit ps i e)

-- the rows after the default of a rule
abbrev with_first : Rule → List Text → List Row → List Row
with_first a [] rows = rows
with_first a (v ∷ vs) rows = rows ++ record { id = a.id; values = v ∷ vs; count = None; source = Some DefaultValue; reading = reading_by a } ∷ []

default_rows-none : (a : Rule) (vs : List Text) (rows : List Row) → has_row a.id rows ≡ false → default_rows a.id (reading_by a) vs rows ≡ with_first a vs rows
default_rows-none a [] rows none = refl
default_rows-none a (v ∷ vs) rows none =
    at_row-none a.id (more_values DefaultValue (v ∷ vs))
    (record { id = a.id; values = v ∷ vs; count = None; source = Some DefaultValue; reading = reading_by a } ∷ []) rows none

with_default-there : (rows : List Row) (a : Rule) → has_row a.id rows ≡ true → with_default rows a ≡ rows
with_default-there rows a there = λ i. if there i then rows else default_rows a.id (reading_by a) a.defaults rows

with_default-none : (rows : List Row) (a : Rule) → has_row a.id rows ≡ false → with_default rows a ≡ with_first a a.defaults rows
with_default-none rows a none = (λ i. if none i then rows else default_rows a.id (reading_by a) a.defaults rows) ∙ default_rows-none a a.defaults rows none

-- ---- what is used

used_more : (id : Text) (rows : List Row) (r : Row) → explicit_source r.source ≡ false → is_used id (rows ++ r ∷ []) ≡ is_used id rows
used_more id [] r e = go (bytes_eq r.id id)
  where
    go : (b : Bool) → option_map_or (λ r. explicit_source r.source) (cond b (Some r) None) false ≡ false
    go true = e
    go false = refl
used_more id (x ∷ xs) r e = go (bytes_eq x.id id) (used_more id xs r e)
  where
    go : (b : Bool) → is_used id (xs ++ r ∷ []) ≡ is_used id xs
        → option_map_or (λ r. explicit_source r.source) (cond b (Some x) (find (λ r. bytes_eq r.id id) (xs ++ r ∷ []))) false
        ≡ option_map_or (λ r. explicit_source r.source) (cond b (Some x) (find (λ r. bytes_eq r.id id) xs)) false
    go true e = refl
    go false e = e

used_first : (id : Text) (a : Rule) (vs : List Text) (rows : List Row) → is_used id (with_first a vs rows) ≡ is_used id rows
used_first id a [] rows = refl
used_first id a (v ∷ vs) rows =
    used_more id rows (record { id = a.id; values = v ∷ vs; count = None; source = Some DefaultValue; reading = reading_by a }) refl

used_default : (id : Text) (rows : List Row) (a : Rule) → is_used id (with_default rows a) ≡ is_used id rows
used_default id rows a = go (has_row a.id rows) refl
  where
    go : (b : Bool) → has_row a.id rows ≡ b → is_used id (with_default rows a) ≡ is_used id rows
    go true e = ap (is_used id) (with_default-there rows a e)
    go false e = ap (is_used id) (with_default-none rows a e) ∙ used_first id a a.defaults rows

used_finished : (id : Text) (c : List Rule) (rows : List Row) → is_used id (fold with_default rows c) ≡ is_used id rows
used_finished id [] rows = refl
used_finished id (a ∷ later) rows = used_finished id later (with_default rows a) ∙ used_default id rows a

used_given : (id : Text) (given : List Given) → is_used id (rows_of given) ≡ is_given id given
used_given id [] = refl
used_given id (g ∷ given) = go (bytes_eq g.0 id) (used_given id given)
  where
    go : (b : Bool) → is_used id (rows_of given) ≡ is_given id given
        → option_map_or (λ r. explicit_source r.source) (cond b (Some (row_of g)) (find (λ r. bytes_eq r.id id) (rows_of given))) false ≡ (b || is_given id given)
    go true e = refl
    go false e = e

-- ---- what is required

lacking_more : (p : Parameter) (i : ℕ) (rows : List Row) (given : List Given) (c : List Rule) (ps : List Parameter)
    → ((id : Text) → is_used id rows ≡ is_given id given)
    → list_any (λ a. a.required && not (is_used a.id rows)) c ≡ not (has_required ps given)
    → list_any (λ a. a.required && not (is_used a.id rows)) (placed p i ∷ c) ≡ not (has_required (p ∷ ps) given)
lacking_more p i rows given c ps same rest =
    (λ j. (placed-required p i j && not ((ap (λ id. is_used id rows) (placed-id p i) ∙ same (id_of p)) j)) || rest j)
    ∙ tests (is_required p) (is_given (id_of p) given) (has_required ps given)
  where
    tests : (required given_here others : Bool) → ((required && not given_here) || not others) ≡ not ((not required || given_here) && others)
    tests true true others = refl
    tests true false others = refl
    tests false given_here others = refl

lacking_given : (ps : List Parameter) (i : ℕ) (rows : List Row) (given : List Given) → ((id : Text) → is_used id rows ≡ is_given id given)
    → list_any (λ a. a.required && not (is_used a.id rows)) (rules_from i ps) ≡ not (has_required ps given)
lacking_given [] i rows given same = refl
lacking_given (text id ∷ ps) i rows given same =
    lacking_more (text id) i rows given (rules_from (min (i + 1) usize_max) ps) ps same (lacking_given ps (min (i + 1) usize_max) rows given same)
lacking_given (positional_number id low high ∷ ps) i rows given same =
    lacking_more (positional_number id low high) i rows given (rules_from (min (i + 1) usize_max) ps) ps same (lacking_given ps (min (i + 1) usize_max) rows given same)
lacking_given (flag id ∷ ps) i rows given same = lacking_more (flag id) i rows given (rules_from i ps) ps same (lacking_given ps i rows given same)
lacking_given (number id low high default ∷ ps) i rows given same =
    lacking_more (number id low high default) i rows given (rules_from i ps) ps same (lacking_given ps i rows given same)
lacking_given (required_number id low high ∷ ps) i rows given same =
    lacking_more (required_number id low high) i rows given (rules_from i ps) ps same (lacking_given ps i rows given same)

-- the rows at the end
abbrev pub all_rows : List Parameter → List Given → List Row
all_rows ps given = fold with_default (rows_of given) (rules_from 1 ps)

end_given : (name : Text) (ps : List Parameter) (given : List Given) → list_all fits_default ps ≡ true
    → end_rows name (rules_from 1 ps) (rows_of given) ≡ (if has_required ps given then Some (all_rows ps given) else None)
end_given name ps given fit =
    let c = rules_from 1 ps in
    (λ i. unless_fault (or_else (defaults_fit ps 1 fit (rows_of given) i) (check_fault (top_of name c) (all_rows ps given) false)) (all_rows ps given))
    ∙ ((λ i. unless_fault (if lacking_given ps 1 (all_rows ps given) given (λ id. used_finished id c (rows_of given) ∙ used_given id given) i then kind.MissingRequiredArgument ∷ [] else []) (all_rows ps given))
    ∙ go (has_required ps given))
  where
    go : (b : Bool) → unless_fault (if not b then kind.MissingRequiredArgument ∷ [] else []) (all_rows ps given) ≡ (if b then Some (all_rows ps given) else None)
    go true = refl
    go false = refl

all_new : (given : List Given) → are_new [] given ≡ true
all_new [] = refl
all_new (g ∷ given) = all_new given

-- what is found by what is given
pub found-checked : (name : Text) (ps : List Parameter) (given : Option (List Given)) → list_all fits_default ps ≡ true
    → found_by name (rules_from 1 ps) [] given ≡ option_map (all_rows ps) (checked ps given)
found-checked name ps None fit = refl
found-checked name ps (Some given) fit =
    found_from-rows name (rules_from 1 ps) [] given
    ∙ ((λ i. if is_given_once given && all_new given i then end_given name ps given fit i else None)
    ∙ go (is_given_once given) (has_required ps given))
  where
    go : (once required : Bool) → (if once && true then (if required then Some (all_rows ps given) else None) else None)
        ≡ option_map (all_rows ps) (if once && required then Some given else None)
    go true true = refl
    go true false = refl
    go false required = refl

-- ---- the text of each parameter

kept_more : (id : Text) (rows : List Row) (x r : Row) → find (λ r. bytes_eq r.id id) rows ≡ Some x → find (λ r. bytes_eq r.id id) (rows ++ r ∷ []) ≡ Some x
kept_more id [] x r e = cc
kept_more id (y ∷ ys) x r e = go (bytes_eq y.id id) e (kept_more id ys x r)
  where
    go : (b : Bool) → cond b (Some y) (find (λ r. bytes_eq r.id id) ys) ≡ Some x
        → (find (λ r. bytes_eq r.id id) ys ≡ Some x → find (λ r. bytes_eq r.id id) (ys ++ r ∷ []) ≡ Some x)
        → cond b (Some y) (find (λ r. bytes_eq r.id id) (ys ++ r ∷ [])) ≡ Some x
    go true e rest = e
    go false e rest = rest e

kept_first : (id : Text) (a : Rule) (vs : List Text) (rows : List Row) (x : Row) → find (λ r. bytes_eq r.id id) rows ≡ Some x
    → find (λ r. bytes_eq r.id id) (with_first a vs rows) ≡ Some x
kept_first id a [] rows x e = e
kept_first id a (v ∷ vs) rows x e =
    kept_more id rows x (record { id = a.id; values = v ∷ vs; count = None; source = Some DefaultValue; reading = reading_by a }) e

kept : (id : Text) (c : List Rule) (rows : List Row) (x : Row) → find (λ r. bytes_eq r.id id) rows ≡ Some x → find (λ r. bytes_eq r.id id) (fold with_default rows c) ≡ Some x
kept id [] rows x e = e
kept id (a ∷ later) rows x e = kept id later (with_default rows a) x (go (has_row a.id rows) refl)
  where
    go : (b : Bool) → has_row a.id rows ≡ b → find (λ r. bytes_eq r.id id) (with_default rows a) ≡ Some x
    go true there = ap (find (λ r. bytes_eq r.id id)) (with_default-there rows a there) ∙ e
    go false none = ap (find (λ r. bytes_eq r.id id)) (with_default-none rows a none) ∙ kept_first id a a.defaults rows x e

find_more : (id : Text) (rows : List Row) (r : Row) → has_row id rows ≡ false → find (λ r. bytes_eq r.id id) (rows ++ r ∷ []) ≡ cond (bytes_eq r.id id) (Some r) None
find_more id [] r none = refl
find_more id (x ∷ xs) r none =
    let n = both_false (bytes_eq x.id id) (has_row id xs) none in
    (λ i. cond (n.0 i) (Some x) (find (λ r. bytes_eq r.id id) (xs ++ r ∷ []))) ∙ find_more id xs r n.1

find_none : (id : Text) (rows : List Row) → has_row id rows ≡ false → find (λ r. bytes_eq r.id id) rows ≡ None
find_none id [] none = refl
find_none id (x ∷ xs) none =
    let n = both_false (bytes_eq x.id id) (has_row id xs) none in
    (λ i. cond (n.0 i) (Some x) (find (λ r. bytes_eq r.id id) xs)) ∙ find_none id xs n.1

-- the first default of the rules with this id
abbrev pub first_or : List Text → Text → Text
first_or [] other = other
first_or (v ∷ vs) other = v

abbrev pub default_in : Text → List Rule → Text
default_in id [] = []
default_in id (a ∷ later) = if bytes_eq a.id id then first_or a.defaults (default_in id later) else default_in id later

default_found : (id : Text) (c : List Rule) (rows : List Row) → has_row id rows ≡ false → text_with_id id (fold with_default rows c) ≡ default_in id c
default_found id [] rows none = ap (λ o. unwrap_or (option_and_then (λ (r : Row). slice_get r.values 0) o) []) (find_none id rows none)
default_found id (a ∷ later) rows none = go (bytes_eq a.id id) refl (has_row a.id rows) refl a.defaults refl (default_found id later)
  where
    moved : (rows_now : List Row) → with_default rows a ≡ rows_now → text_with_id id (fold with_default rows_now later) ≡ (if bytes_eq a.id id then first_or a.defaults (default_in id later) else default_in id later)
        → text_with_id id (fold with_default rows (a ∷ later)) ≡ default_in id (a ∷ later)
    moved rows_now e is = ap (λ r. text_with_id id (fold with_default r later)) e ∙ is

    added : (v : Text) (vs : List Text) → Row
    added v vs = record { id = a.id; values = v ∷ vs; count = None; source = Some DefaultValue; reading = reading_by a }

    go : (b : Bool) → bytes_eq a.id id ≡ b → (t : Bool) → has_row a.id rows ≡ t → (vs : List Text) → a.defaults ≡ vs
        → ((rows : List Row) → has_row id rows ≡ false → text_with_id id (fold with_default rows later) ≡ default_in id later)
        → text_with_id id (fold with_default rows (a ∷ later)) ≡ default_in id (a ∷ later)
    go true e true there vs d rest =
        let same : a.id ≡ id = (bytes_eq-Decides a.id id).0 e in
        let bad : true ≡ false = sym there ∙ (ap (λ x. has_row x rows) same ∙ none) in
        cc
    go true e false new [] d rest =
        moved rows (with_default-none rows a new ∙ ap (λ x. with_first a x rows) d)
        (rest rows none ∙ (λ i. if sym e i then first_or (sym d i) (default_in id later) else default_in id later))
    go true e false new (v ∷ vs) d rest =
        moved (rows ++ added v vs ∷ []) (with_default-none rows a new ∙ ap (λ x. with_first a x rows) d)
        (ap (λ o. unwrap_or (option_and_then (λ (r : Row). slice_get r.values 0) o) [])
        (kept id later (rows ++ added v vs ∷ []) (added v vs) (find_more id rows (added v vs) none ∙ (λ i. cond (e i) (Some (added v vs)) None)))
        ∙ (λ i. if sym e i then first_or (sym d i) (default_in id later) else default_in id later))
    go false e true there vs d rest =
        moved rows (with_default-there rows a there) (rest rows none ∙ (λ i. if sym e i then first_or a.defaults (default_in id later) else default_in id later))
    go false e false new [] d rest =
        moved rows (with_default-none rows a new ∙ ap (λ x. with_first a x rows) d)
        (rest rows none ∙ (λ i. if sym e i then first_or a.defaults (default_in id later) else default_in id later))
    go false e false new (v ∷ vs) d rest =
        moved (rows ++ added v vs ∷ []) (with_default-none rows a new ∙ ap (λ x. with_first a x rows) d)
        (rest (rows ++ added v vs ∷ []) (has_row-more id rows (added v vs) ∙ ((λ i. none i || e i)))
        ∙ (λ i. if sym e i then first_or a.defaults (default_in id later) else default_in id later))

-- the default of each parameter is its rule's default
abbrev pub HaveDefaults : List Rule → List Parameter → Type 0
HaveDefaults c [] = Unit
HaveDefaults c (p ∷ ps) = (default_in (id_of p) c ≡ default_of p) × HaveDefaults c ps

no_default_more : (p q : Parameter) (i : ℕ) (c : List Rule) → bytes_eq (id_of p) (id_of q) ≡ false → default_in (id_of p) c ≡ [] → default_in (id_of p) (placed q i ∷ c) ≡ []
no_default_more p q i c apart rest =
    (λ j. if bytes_eq (placed-id q i j) (id_of p) then first_or (placed q i).defaults (default_in (id_of p) c) else default_in (id_of p) c)
    ∙ ((λ j. if (bytes_eq-sym (id_of q) (id_of p) ∙ apart) j then first_or (placed q i).defaults (default_in (id_of p) c) else default_in (id_of p) c) ∙ rest)

no_default : (p : Parameter) (ps : List Parameter) (i : ℕ) → list_any (λ q. bytes_eq (id_of p) (id_of q)) ps ≡ false → default_in (id_of p) (rules_from i ps) ≡ []
no_default p [] i none = refl
no_default p (text id ∷ ps) i none =
    let n = both_false (bytes_eq (id_of p) id) (list_any (λ q. bytes_eq (id_of p) (id_of q)) ps) none in
    no_default_more p (text id) i (rules_from (min (i + 1) usize_max) ps) n.0 (no_default p ps (min (i + 1) usize_max) n.1)
no_default p (positional_number id low high ∷ ps) i none =
    let n = both_false (bytes_eq (id_of p) id) (list_any (λ q. bytes_eq (id_of p) (id_of q)) ps) none in
    no_default_more p (positional_number id low high) i (rules_from (min (i + 1) usize_max) ps) n.0 (no_default p ps (min (i + 1) usize_max) n.1)
no_default p (flag id ∷ ps) i none =
    let n = both_false (bytes_eq (id_of p) id) (list_any (λ q. bytes_eq (id_of p) (id_of q)) ps) none in
    no_default_more p (flag id) i (rules_from i ps) n.0 (no_default p ps i n.1)
no_default p (number id low high default ∷ ps) i none =
    let n = both_false (bytes_eq (id_of p) id) (list_any (λ q. bytes_eq (id_of p) (id_of q)) ps) none in
    no_default_more p (number id low high default) i (rules_from i ps) n.0 (no_default p ps i n.1)
no_default p (required_number id low high ∷ ps) i none =
    let n = both_false (bytes_eq (id_of p) id) (list_any (λ q. bytes_eq (id_of p) (id_of q)) ps) none in
    no_default_more p (required_number id low high) i (rules_from i ps) n.0 (no_default p ps i n.1)

default_past : (p : Parameter) (i : ℕ) (c : List Rule) (qs : List Parameter) → list_any (λ q. bytes_eq (id_of p) (id_of q)) qs ≡ false → HaveDefaults c qs → HaveDefaults (placed p i ∷ c) qs
default_past p i c [] none d = tt
default_past p i c (q ∷ qs) none d =
    let n = both_false (bytes_eq (id_of p) (id_of q)) (list_any (λ q. bytes_eq (id_of p) (id_of q)) qs) none in (
      (λ j. if bytes_eq (placed-id p i j) (id_of q) then first_or (placed p i).defaults (default_in (id_of q) c) else default_in (id_of q) c)
          ∙ ((λ j. if n.0 j then first_or (placed p i).defaults (default_in (id_of q) c) else default_in (id_of q) c) ∙ d.0),
      default_past p i c qs n.1 d.1,
    )

default_here : (p : Parameter) (i : ℕ) (c : List Rule) → default_in (id_of p) c ≡ [] → default_in (id_of p) (placed p i ∷ c) ≡ default_of p
default_here p i c none =
    (λ j. if bytes_eq (placed-id p i j) (id_of p) then first_or (placed p i).defaults (default_in (id_of p) c) else default_in (id_of p) c)
    ∙ ((λ j. if (bytes_eq-Decides (id_of p) (id_of p)).1 refl j then first_or (placed p i).defaults (default_in (id_of p) c) else default_in (id_of p) c)
    ∙ go p)
  where
    go : (q : Parameter) → first_or (placed q i).defaults (default_in (id_of p) c) ≡ default_of q
    go (text id) = none
    go (positional_number id low high) = none
    go (flag id) = refl
    go (number id low high default) = refl
    go (required_number id low high) = none

defaults_next : (p : Parameter) (i j : ℕ) (ps : List Parameter) → have_distinct_ids (p ∷ ps) ≡ true → HaveDefaults (rules_from j ps) ps
    → HaveDefaults (placed p i ∷ rules_from j ps) (p ∷ ps)
defaults_next p i j ps d rest =
    let t = both_true (not (list_any (λ q. bytes_eq (id_of p) (id_of q)) ps)) (have_distinct_ids ps) d in
    let none = not-true (list_any (λ q. bytes_eq (id_of p) (id_of q)) ps) t.0 in
    (default_here p i (rules_from j ps) (no_default p ps j none), default_past p i (rules_from j ps) ps none rest)

distinct_rest : (p : Parameter) (ps : List Parameter) → have_distinct_ids (p ∷ ps) ≡ true → have_distinct_ids ps ≡ true
distinct_rest p ps d = (both_true (not (list_any (λ q. bytes_eq (id_of p) (id_of q)) ps)) (have_distinct_ids ps) d).1

pub have_defaults : (ps : List Parameter) (i : ℕ) → have_distinct_ids ps ≡ true → HaveDefaults (rules_from i ps) ps
have_defaults [] i d = tt
have_defaults (text id ∷ ps) i d = defaults_next (text id) i (min (i + 1) usize_max) ps d (have_defaults ps (min (i + 1) usize_max) (distinct_rest (text id) ps d))
have_defaults (positional_number id low high ∷ ps) i d =
    defaults_next (positional_number id low high) i (min (i + 1) usize_max) ps d (have_defaults ps (min (i + 1) usize_max) (distinct_rest (positional_number id low high) ps d))
have_defaults (flag id ∷ ps) i d = defaults_next (flag id) i i ps d (have_defaults ps i (distinct_rest (flag id) ps d))
have_defaults (number id low high default ∷ ps) i d =
    defaults_next (number id low high default) i i ps d (have_defaults ps i (distinct_rest (number id low high default) ps d))
have_defaults (required_number id low high ∷ ps) i d =
    defaults_next (required_number id low high) i i ps d (have_defaults ps i (distinct_rest (required_number id low high) ps d))

-- what is given has its row, and what is left out has its default
row_given : (id : Text) (given : List Given) → find (λ r. bytes_eq r.id id) (rows_of given) ≡ option_map row_of (find (λ g. bytes_eq g.0 id) given)
row_given id [] = refl
row_given id (g ∷ given) = go (bytes_eq g.0 id) (row_given id given)
  where
    go : (b : Bool) → find (λ r. bytes_eq r.id id) (rows_of given) ≡ option_map row_of (find (λ g. bytes_eq g.0 id) given)
        → cond b (Some (row_of g)) (find (λ r. bytes_eq r.id id) (rows_of given)) ≡ option_map row_of (cond b (Some g) (find (λ g. bytes_eq g.0 id) given))
    go true e = refl
    go false e = e

no_row : (id : Text) (rows : List Row) → find (λ r. bytes_eq r.id id) rows ≡ None → has_row id rows ≡ false
no_row id [] e = refl
no_row id (x ∷ xs) e = go (bytes_eq x.id id) e (no_row id xs)
  where
    go : (b : Bool) → cond b (Some x) (find (λ r. bytes_eq r.id id) xs) ≡ None → (find (λ r. bytes_eq r.id id) xs ≡ None → has_row id xs ≡ false) → (b || has_row id xs) ≡ false
    go true e rest = cc
    go false e rest = rest e

pub text-found : (ps : List Parameter) (given : List Given) (p : Parameter) → default_in (id_of p) (rules_from 1 ps) ≡ default_of p
    → text_with_id (id_of p) (all_rows ps given) ≡ unwrap_or (value_given (id_of p) given) (default_of p)
text-found ps given p default = go (find (λ g. bytes_eq g.0 (id_of p)) given) refl
  where
    go : (o : Option Given) → find (λ g. bytes_eq g.0 (id_of p)) given ≡ o
        → text_with_id (id_of p) (all_rows ps given) ≡ unwrap_or (option_map (λ g. g.1) (find (λ g. bytes_eq g.0 (id_of p)) given)) (default_of p)
    go None e =
        default_found (id_of p) (rules_from 1 ps) (rows_of given) (no_row (id_of p) (rows_of given) (row_given (id_of p) given ∙ ap (option_map row_of) e))
        ∙ (default ∙ sym (ap (λ o. unwrap_or (option_map (λ (g : Given). g.1) o) (default_of p)) e))
    go (Some g) e =
        ap (λ o. unwrap_or (option_and_then (λ (r : Row). slice_get r.values 0) o) [])
        (kept (id_of p) (rules_from 1 ps) (rows_of given) (row_of g) (row_given (id_of p) given ∙ ap (option_map row_of) e))
        ∙ sym (ap (λ o. unwrap_or (option_map (λ (g : Given). g.1) o) (default_of p)) e)
