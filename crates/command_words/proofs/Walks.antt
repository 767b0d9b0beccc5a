-- `clap`'s walk over the words of a command, turn by turn. Used by the law of its parameters.
use Rattle.std.proofs.Common.{◌≡◌, ◌∙◌, ◌+◌, ℕ, suc, Bool, true, false, refl, ap, List, [], ◌∷◌, length, Option, Some, None, codes}
use Rattle.std.specs.Prelude.{⊤, min, nat_lt, if◌then◌else◌, ◌&&◌, ◌||◌, is_some, slice_get, fold, drop, encode_utf8}
use Rattle.std.specs.Option.{option_map_or}
use Rattle.std.specs.Str.{chars, bytes_eq}
use Rattle.std.proofs.lemmas.Slice.Eq.{bytes_eq-Decides}
use Rattle.clap.specs.Lexer.{usize_max, long_of}
use Rattle.clap.specs.Walk.{Held, Row, Rule, Text, Waiting, Walk, idle, option, positional, value, next, trailing, word_met, long_or_other, short_or_plain, walked, after_step, after_flag, option_word, option_met, flag_met, long_met, to_positional, arg_by_index, arg_by_long, arg_by_short, finished, is_pending, takes_several, takes_values, pushed, reacted, settled, used, used_by_id, with_default}
use Rattle.clap.specs.Simple.{App, Shape, built, entered}
use Rattle.clap.specs.Kinds.{Kinds, or_else}
use Rattle.clap.specs.Faults.{word_fault, short_fault, flag_word_fault, bundle_fault, bundle_step_fault, flags_fault, long_fault, option_fault, react_fault, turn_fault, walk_fault, step_fault, settle_fault, use_fault, defaults_fault, check_fault, entered_fault, positional_fault, stray_fault}
use Rattle.clap.specs.declared.error.kind.ErrorKind.{ErrorKind}
use Rattle.clap.specs.declared.error.kind.ErrorKind.TheVariants as kind
use Rattle.command_words.specs.Parameters.{Parameter, id_of, is_flag}
use Rattle.command_words.specs.Rules.{bare_app}
use Rattle.command_words.specs.Rows.{unless_fault}
use Rattle.command_words.proofs.WordKinds.{IsPlain, IsBundle}
use Rattle.command_words.proofs.Places.{HavePlaces, IsKnown, IsSingle, TakesOne, after, or_else-nil, placed, placed-id, placed-single, use-missing}

-- a command with these rules, from which it was built
abbrev pub made : Text → List Rule → App
made name c = let a = built (bare_app name) in record a { top = record a.top { rules = c } }

abbrev pub top_of : Text → List Rule → Shape
top_of name c = (made name c).top

-- ---- what is held

-- these rows, and nothing that is yet to be used
abbrev pub clean : List Row → Held
clean rows = record { rows = rows; pending = None; skip = 0 }

-- and these values, which are yet to be used
abbrev pub holding : Text → List Text → List Row → Held
holding id values rows = record { rows = rows; pending = Some (id, values); skip = 0 }

-- using what is held comes to these faults and rows
pub record Settles (c : List Rule) (h : Held) (f : Kinds) (rows : List Row) : Type 0 where
  pub fault : settle_fault c false h ≡ f
  pub held : settled c h ≡ clean rows
  pub skip : h.skip ≡ 0

pub clean-settles : (c : List Rule) (rows : List Row) → Settles c (clean rows) [] rows
clean-settles c rows = record { fault = refl; held = refl; skip = refl }

pub holding-settles : (c : List Rule) (p : Parameter) (values : List Text) (rows : List Row) (k : IsKnown c p)
    → Settles c (holding (id_of p) values rows) (use_fault false (placed p k.0) values rows) (used (placed p k.0) values rows)
holding-settles c p values rows k = record {
  fault = λ i. option_map_or (λ a. use_fault false a values rows) (k.1 i) [];
  held = λ i. record { rows = used_by_id (k.1 i) values rows; pending = None; skip = 0 };
  skip = refl;
}

-- ---- the state of the walk

-- at this place, with `--` met or not
abbrev pub standing : Waiting → ℕ → Bool → Held → Walk
standing waiting p t h = record { held = h; waiting = waiting; position = p; is_trailing = t; stopped = None }

abbrev pub at : ℕ → Bool → Held → Walk
at p t h = standing idle p t h

-- the word is a text: `--` was met, or it is no flag
abbrev pub IsText : Bool → Text → Type 0
IsText true w = ⊤
IsText false w = IsPlain w

-- ---- the rest of a walk

-- what may be at fault after the words
abbrev pub end_fault : App → Walk → Kinds
end_fault a w =
    let s = a.top in
    or_else (entered_fault a w.stopped) (or_else (settle_fault s.rules s.args_override_self w.held)
    (or_else (defaults_fault (settled s.rules w.held).rows s.rules)
    (check_fault s (finished s.rules w.held) (is_some (entered a w.stopped)))))

abbrev pub run_fault : App → Walk → List Text → Kinds
run_fault a w words = or_else (walk_fault a.top [] w words) (end_fault a (fold (walked a.top.rules []) w words))

-- what is found from here on, if there is no fault
abbrev pub run : App → Walk → List Text → Option (List Row)
run a w words =
    unless_fault (run_fault a w words) (finished a.top.rules (fold (walked a.top.rules []) w words).held)

unless_after : (f g e : Kinds) (rows : List Row) → unless_fault (or_else (or_else f g) e) rows ≡ after f (unless_fault (or_else g e) rows)
unless_after [] g e rows = refl
unless_after (k ∷ ks) g e rows = refl

-- one more word
pub run-word : (a : App) (w : Walk) (word : Text) (words : List Text) (f : Kinds) → turn_fault a.top [] w word ≡ f
    → run a w (word ∷ words) ≡ after f (run a (walked a.top.rules [] w word) words)
unfolding walk_fault
run-word a w word words f e =
    let moved = walked a.top.rules [] w word in
    let end = fold (walked a.top.rules []) moved words in
    (λ i. unless_fault (or_else (or_else (e i) (walk_fault a.top [] moved words)) (end_fault a end)) (finished a.top.rules end.held))
    ∙ unless_after f (walk_fault a.top [] moved words) (end_fault a end) (finished a.top.rules end.held)

-- `--` makes texts of all words after it
pub run-divider : (a : App) (waiting : Waiting) (p : ℕ) (h : Held) (words : List Text)
    → run a (standing waiting p false h) ((45 ∷ 45 ∷ []) ∷ words) ≡ run a (standing waiting p true h) words
unfolding walked walk_fault
run-divider a idle p h words = refl
run-divider a (option id) p h words = refl
run-divider a positional p h words = refl

-- the rows at the end, if there is no fault there
abbrev pub end_rows : Text → List Rule → List Row → Option (List Row)
end_rows name c rows =
    unless_fault (or_else (defaults_fault rows c) (check_fault (top_of name c) (fold with_default rows c) false)) (fold with_default rows c)

unless_end : (f e : Kinds) (rows : List Row) → unless_fault (or_else f e) rows ≡ after f (unless_fault e rows)
unless_end [] e rows = refl
unless_end (k ∷ ks) e rows = refl

pub run-end : (name : Text) (c : List Rule) (waiting : Waiting) (p : ℕ) (t : Bool) (h : Held) (f : Kinds) (rows : List Row) → Settles c h f rows
    → run (made name c) (standing waiting p t h) [] ≡ after f (end_rows name c rows)
unfolding walk_fault
run-end name c waiting p t h f rows s =
    (λ i. unless_fault
    (or_else (s.fault i) (or_else (defaults_fault (s.held i).rows c) (check_fault (top_of name c) (fold with_default (s.held i).rows c) false)))
    (fold with_default (s.held i).rows c))
    ∙ unless_end f (or_else (defaults_fault rows c) (check_fault (top_of name c) (fold with_default rows c) false)) (fold with_default rows c)

-- ---- a text

met_text : (c : List Rule) (p : ℕ) (t : Bool) (w : Text) (h : Held) → IsText t w → word_met c [] t idle p w h ≡ (h, value)
met_text c p true w h k = refl
met_text c p false w h k =
    (λ i. if k.0 i then (h, trailing p) else long_or_other c idle w (k.1 i) h) ∙ (λ i. short_or_plain c idle w (k.2 i) h)

text_fault : (s : Shape) (t : Bool) (w : Text) (h : Held) → IsText t w → word_fault s [] t idle w h ≡ []
text_fault s true w h k = refl
text_fault s false w h k =
    (λ i. if k.0 i then [] else flag_word_fault s.rules s.args_override_self (k.1 i) w h)
    ∙ (λ i. option_map_or (λ flags. bundle_fault s.rules s.args_override_self flags h) (k.2 i) [])

text_turn : (s : Shape) (p : ℕ) (t : Bool) (h : Held) (w : Text) → IsText t w → turn_fault s [] (at p t h) w ≡ step_fault s p h value
text_turn s p t h w k =
    λ i. or_else (text_fault s t w h k i) (step_fault s p (met_text s.rules p t w h k i).0 (met_text s.rules p t w h k i).1)

text_walked : (c : List Rule) (p : ℕ) (t : Bool) (h : Held) (w : Text) → IsText t w
    → walked c [] (at p t h) w ≡ to_positional c (arg_by_index c p) w (at p t h) h
unfolding walked
text_walked c p t h w k =
    λ i. after_step c w (at p t h) (met_text c p t w h k i).0 (met_text c p t w h k i).1

and-false : (b : Bool) → (b && false) ≡ false
and-false true = refl
and-false false = refl

or-false : (b : Bool) → (b || false) ≡ b
or-false true = refl
or-false false = refl

not_added : (r : Rule) (h : Held) → IsSingle r → (is_pending r h.pending && takes_several r) ≡ false
not_added r h single = (λ i. is_pending r h.pending && single.several i) ∙ and-false (is_pending r h.pending)

positional_turn : (c : List Rule) (r : Rule) (h : Held) (f : Kinds) (rows : List Row) → IsSingle r → Settles c h f rows → positional_fault c false r h ≡ f
positional_turn c r h f rows single s = (λ i. if not_added r h single i then [] else settle_fault c false h) ∙ s.fault

positional_walked : (c : List Rule) (r : Rule) (id : Text) (p : ℕ) (t : Bool) (h : Held) (w : Text) (f : Kinds) (rows : List Row) → IsSingle r → r.id ≡ id → Settles c h f rows
    → to_positional c (Some r) w (at p t h) h ≡ at (min (p + 1) usize_max) t (holding id (w ∷ []) rows)
positional_walked c r id p t h w f rows single same s =
    let held : (if is_pending r h.pending && takes_several r then h else settled c h) ≡ clean rows = (λ i. if not_added r h single i then h else settled c h) ∙ s.held in
    let trails : (t || r.trailing_var_arg) ≡ t = (λ i. t || single.trailing i) ∙ or-false t in
    λ i. record {
      held = pushed (same i) w (held i);
      waiting = if single.multiple i then positional else idle;
      position = if single.multiple i then p else min (p + 1) usize_max;
      is_trailing = trails i;
      stopped = None;
    }

-- one text more than there are places is a fault
pub text-too_many : (name : Text) (c : List Rule) (p : ℕ) (t : Bool) (h : Held) (w : Text) (words : List Text) → IsText t w → HavePlaces c p []
    → run (made name c) (at p t h) (w ∷ words) ≡ None
text-too_many name c p t h w words k none =
    run-word (made name c) (at p t h) w words (kind.UnknownArgument ∷ [])
    (text_turn (top_of name c) p t h w k ∙ (λ i. option_map_or (λ a. positional_fault c false a h) (none i) (stray_fault (top_of name c))))

-- a text goes to its place
pub text-placed : (name : Text) (c : List Rule) (p : ℕ) (t : Bool) (h : Held) (f : Kinds) (rows : List Row) (q : Parameter) (qs : List Parameter) (w : Text) (words : List Text)
    → IsText t w → Settles c h f rows → HavePlaces c p (q ∷ qs)
    → run (made name c) (at p t h) (w ∷ words) ≡ after f (run (made name c) (at (min (p + 1) usize_max) t (holding (id_of q) (w ∷ []) rows)) words)
text-placed name c p t h f rows q qs w words k s places =
    run-word (made name c) (at p t h) w words f
    (text_turn (top_of name c) p t h w k
    ∙ ((λ i. option_map_or (λ a. positional_fault c false a h) (places.0 i) (stray_fault (top_of name c)))
    ∙ positional_turn c (placed q p) h f rows (placed-single q p) s))
    ∙ ap (λ v. after f (run (made name c) v words))
    (text_walked c p t h w k
    ∙ ((λ i. to_positional c (places.0 i) w (at p t h) h)
    ∙ positional_walked c (placed q p) (id_of q) p t h w f rows (placed-single q p) (placed-id q p) s))

-- ---- an option with its name

abbrev turn_by : Text → List Rule → ℕ → Held → Text → Option Text → Option Rule → Kinds
turn_by name c p h w v o =
    or_else (long_fault c false o v h)
    (step_fault (top_of name c) p (after_flag c idle w (long_met c o v h).0 (long_met c o v h).1).0 (after_flag c idle w (long_met c o v h).0 (long_met c o v h).1).1)

abbrev walk_by : List Rule → ℕ → Held → Text → Option Text → Option Rule → Walk
walk_by c p h w v o =
    after_step c w (at p false h) (after_flag c idle w (long_met c o v h).0 (long_met c o v h).1).0 (after_flag c idle w (long_met c o v h).0 (long_met c o v h).1).1

long_turn : (name : Text) (c : List Rule) (p : ℕ) (h : Held) (w n : Text) (v : Option Text) (o : Option Rule)
    → bytes_eq w (codes "--") ≡ false → long_of w ≡ Some (n, v) → arg_by_long c n ≡ o → turn_fault (top_of name c) [] (at p false h) w ≡ turn_by name c p h w v o
long_turn name c p h w n v o whole long found =
    (λ i. or_else (if whole i then [] else flag_word_fault c false (long i) w h)
    (step_fault (top_of name c) p
    (if whole i then (h, trailing p) else long_or_other c idle w (long i) h).0
    (if whole i then (h, trailing p) else long_or_other c idle w (long i) h).1))
    ∙ (λ i. turn_by name c p h w v (found i))

long_walked : (c : List Rule) (p : ℕ) (h : Held) (w n : Text) (v : Option Text) (o : Option Rule)
    → bytes_eq w (codes "--") ≡ false → long_of w ≡ Some (n, v) → arg_by_long c n ≡ o → walked c [] (at p false h) w ≡ walk_by c p h w v o
unfolding walked
long_walked c p h w n v o whole long found =
    (λ i. after_step c w (at p false h)
    (if whole i then (h, trailing p) else long_or_other c idle w (long i) h).0
    (if whole i then (h, trailing p) else long_or_other c idle w (long i) h).1)
    ∙ (λ i. walk_by c p h w v (found i))

-- the same, if it is known whether the option takes values
abbrev turn_as : Text → List Rule → ℕ → Held → Text → Option Text → Rule → Bool → Kinds
turn_as name c p h w v r b =
    or_else (if b then option_fault c false r v h else (if is_some v then kind.TooManyValues ∷ [] else react_fault c false r [] h))
    (step_fault (top_of name c) p
    (after_flag c idle w (if b then option_met c r v h else flag_met c r v h).0 (if b then option_met c r v h else flag_met c r v h).1).0
    (after_flag c idle w (if b then option_met c r v h else flag_met c r v h).0 (if b then option_met c r v h else flag_met c r v h).1).1)

abbrev walk_as : List Rule → ℕ → Held → Text → Option Text → Rule → Bool → Walk
walk_as c p h w v r b =
    after_step c w (at p false h)
    (after_flag c idle w (if b then option_met c r v h else flag_met c r v h).0 (if b then option_met c r v h else flag_met c r v h).1).0
    (after_flag c idle w (if b then option_met c r v h else flag_met c r v h).0 (if b then option_met c r v h else flag_met c r v h).1).1

module _ (name : Text) (c : List Rule) (p : ℕ) (h : Held) (w n : Text) (v : Option Text) (words : List Text)
    (whole : bytes_eq w (codes "--") ≡ false) (long : long_of w ≡ Some (n, v)) where
  -- an option that the command does not have is a fault
  pub option-unknown : arg_by_long c n ≡ None → run (made name c) (at p false h) (w ∷ words) ≡ None
  option-unknown none =
      run-word (made name c) (at p false h) w words (turn_by name c p h w v None) (long_turn name c p h w n v None whole long none)

  run-option : (r : Rule) (b : Bool) → arg_by_long c n ≡ Some r → takes_values r ≡ b
      → run (made name c) (at p false h) (w ∷ words) ≡ after (turn_as name c p h w v r b) (run (made name c) (walk_as c p h w v r b) words)
  run-option r b found takes =
      run-word (made name c) (at p false h) w words (turn_by name c p h w v (Some r)) (long_turn name c p h w n v (Some r) whole long found)
      ∙ (ap (λ x. after (turn_by name c p h w v (Some r)) (run (made name c) x words)) (long_walked c p h w n v (Some r) whole long found)
      ∙ (λ i. after (turn_as name c p h w v r (takes i)) (run (made name c) (walk_as c p h w v r (takes i)) words)))

two_faults : {X : Type 0} (f g : Kinds) (o : Option X) → after (or_else (or_else f g) []) o ≡ after f (after g o)
two_faults [] [] o = refl
two_faults [] (k ∷ ks) o = refl
two_faults (k ∷ ks) g o = refl

module _ (name : Text) (c : List Rule) (p : ℕ) (h : Held) (w n : Text) (words : List Text) (f : Kinds) (rows : List Row) (r : Rule)
    (whole : bytes_eq w (codes "--") ≡ false) (found : arg_by_long c n ≡ Some r) (s : Settles c h f rows) where
  -- an option is used with its values
  reacted-run : (values : List Text)
      → after (or_else (or_else (settle_fault c false h) (use_fault false r values (settled c h).rows)) []) (run (made name c) (at p false (reacted c r values h)) words)
      ≡ after f (after (use_fault false r values rows) (run (made name c) (at p false (clean (used r values rows))) words))
  reacted-run values =
      two_faults (settle_fault c false h) (use_fault false r values (settled c h).rows) (run (made name c) (at p false (reacted c r values h)) words)
      ∙ (λ i. after (s.fault i) (after (use_fault false r values (s.held i).rows)
      (run (made name c) (at p false (record { rows = used r values (s.held i).rows; pending = None; skip = s.skip i })) words)))

  pub flag-alone : long_of w ≡ Some (n, None) → takes_values r ≡ false
      → run (made name c) (at p false h) (w ∷ words)
      ≡ after f (after (use_fault false r [] rows) (run (made name c) (at p false (clean (used r [] rows))) words))
  flag-alone long takes = run-option name c p h w n None words whole long r false found takes ∙ reacted-run []

  pub flag-valued : (v : Text) → long_of w ≡ Some (n, Some v) → takes_values r ≡ false → run (made name c) (at p false h) (w ∷ words) ≡ None
  flag-valued v long takes = run-option name c p h w n (Some v) words whole long r false found takes

  pub option-valued : (v : Text) → long_of w ≡ Some (n, Some v) → takes_values r ≡ true
      → run (made name c) (at p false h) (w ∷ words)
      ≡ after f (after (use_fault false r (v ∷ []) rows) (run (made name c) (at p false (clean (used r (v ∷ []) rows))) words))
  option-valued v long takes = run-option name c p h w n (Some v) words whole long r true found takes ∙ reacted-run (v ∷ [])

  -- or waits for its value
  pub option-alone : (id : Text) → r.id ≡ id → long_of w ≡ Some (n, None) → takes_values r ≡ true
      → run (made name c) (at p false h) (w ∷ words) ≡ after f (run (made name c) (standing (option id) p false (holding id [] rows)) words)
  option-alone id same long takes =
      run-option name c p h w n None words whole long r true found takes
      ∙ ((λ i. after (or_else-nil (settle_fault c false h) i) (run (made name c) (walk_as c p h w None r true) words))
      ∙ (λ i. after (s.fault i) (run (made name c) (standing (option (same i)) p false (record (s.held i) { pending = Some (same i, []) })) words)))

-- ---- short options, which no command has

bundle_stops : (c : List Rule) (h : Held) (y : ℕ) (ys : Text) (x : ℕ) → ((x : ℕ) → arg_by_short c x ≡ None) → h.skip ≡ 0 → slice_get (chars (y ∷ ys)) 0 ≡ Some x
    → bundle_fault c false (y ∷ ys) h ≡ kind.UnknownArgument ∷ []
unfolding flags_fault
bundle_stops c h y ys x none skip first =
    let g = record h { skip = 0 } in
    let rest = drop (length (encode_utf8 x)) (y ∷ ys) in
    (λ i. flags_fault c false (suc (length ys)) (y ∷ ys) (skip i) g)
    ∙ ((λ i. bundle_step_fault c false (first i) (y ∷ ys) 0 g (flags_fault c false (length ys)))
    ∙ (λ i. short_fault c false (none x i) rest g (flags_fault c false (length ys) rest 0)))

short_word_fault : (name : Text) (c : List Rule) (waiting : Waiting) (w : Text) (h : Held) → ((x : ℕ) → arg_by_short c x ≡ None) → h.skip ≡ 0
    → bytes_eq w (codes "--") ≡ false → long_of w ≡ None → IsBundle w → word_fault (top_of name c) [] false waiting w h ≡ kind.UnknownArgument ∷ []
short_word_fault name c idle w h none skip whole long b =
    (λ i. if whole i then [] else flag_word_fault c false (long i) w h)
    ∙ ((λ i. option_map_or (λ flags. bundle_fault c false flags h) (b.3 i) []) ∙ bundle_stops c h b.0 b.1 b.2 none skip b.4)
short_word_fault name c (option id) w h none skip whole long b =
    (λ i. if whole i then [] else flag_word_fault c false (long i) w h)
    ∙ ((λ i. option_map_or (λ flags. bundle_fault c false flags h) (b.3 i) []) ∙ bundle_stops c h b.0 b.1 b.2 none skip b.4)
short_word_fault name c positional w h none skip whole long b =
    (λ i. if whole i then [] else flag_word_fault c false (long i) w h)
    ∙ ((λ i. option_map_or (λ flags. bundle_fault c false flags h) (b.3 i) []) ∙ bundle_stops c h b.0 b.1 b.2 none skip b.4)

pub short-unknown : (name : Text) (c : List Rule) (waiting : Waiting) (p : ℕ) (w : Text) (words : List Text) (h : Held) → ((x : ℕ) → arg_by_short c x ≡ None) → h.skip ≡ 0
    → bytes_eq w (codes "--") ≡ false → long_of w ≡ None → IsBundle w → run (made name c) (standing waiting p false h) (w ∷ words) ≡ None
short-unknown name c waiting p w words h none skip whole long b =
    let met = word_met c [] false waiting p w h in
    run-word (made name c) (standing waiting p false h) w words (or_else (kind.UnknownArgument ∷ []) (step_fault (top_of name c) p met.0 met.1))
    (λ i. or_else (short_word_fault name c waiting w h none skip whole long b i) (step_fault (top_of name c) p met.0 met.1))

-- ---- the word after an option that waits for its value

abbrev waiting_at : ℕ → Bool → Text → List Row → Walk
waiting_at p t id rows = standing (option id) p t (holding id [] rows)

-- an option that waits without a value is a fault when it is used
missing : (c : List Rule) (q : Parameter) (rows : List Row) (k : IsKnown c q) → is_flag q ≡ false → settle_fault c false (holding (id_of q) [] rows) ≡ kind.InvalidValue ∷ []
missing c q rows k no_flag = (holding-settles c q [] rows k).fault ∙ use-missing q k.0 rows no_flag

pub missing-end : (name : Text) (c : List Rule) (p : ℕ) (t : Bool) (q : Parameter) (rows : List Row) → IsKnown c q → is_flag q ≡ false
    → run (made name c) (waiting_at p t (id_of q) rows) [] ≡ None
missing-end name c p t q rows k no_flag =
    let s = holding-settles c q [] rows k in
    run-end name c (option (id_of q)) p t (holding (id_of q) [] rows) _ _ s
    ∙ (λ i. after (use-missing q k.0 rows no_flag i) (end_rows name c (used (placed q k.0) [] rows)))

-- and after `--` it is
pub missing-divided : (name : Text) (c : List Rule) (p : ℕ) (q : Parameter) (rows : List Row) (places : List Parameter) (words : List Text)
    → IsKnown c q → is_flag q ≡ false → HavePlaces c p places → run (made name c) (waiting_at p true (id_of q) rows) words ≡ None
missing-divided name c p q rows places [] k no_flag at_places = missing-end name c p true q rows k no_flag
missing-divided name c p q rows [] (w ∷ words) k no_flag at_places =
    run-word (made name c) (waiting_at p true (id_of q) rows) w words (kind.UnknownArgument ∷ [])
    (λ i. option_map_or (λ a. positional_fault c false a (holding (id_of q) [] rows)) (at_places i) (stray_fault (top_of name c)))
missing-divided name c p q rows (x ∷ xs) (w ∷ words) k no_flag at_places =
    let h = holding (id_of q) [] rows in
    let s = holding-settles c q [] rows k in
    run-word (made name c) (waiting_at p true (id_of q) rows) w words (kind.InvalidValue ∷ [])
    ((λ i. option_map_or (λ a. positional_fault c false a h) (at_places.0 i) (stray_fault (top_of name c)))
    ∙ (positional_turn c (placed x p) h _ _ (placed-single x p) s ∙ use-missing q k.0 rows no_flag))

-- another option in place of the value is a fault
long_missing : (c : List Rule) (o : Option Rule) (v : Option Text) (h : Held) → settle_fault c false h ≡ kind.InvalidValue ∷ []
    → (k : ErrorKind) × (ks : Kinds) × (long_fault c false o v h ≡ k ∷ ks)
long_missing c None v h e = (_, _, refl)
long_missing c (Some r) v h e = go (takes_values r) v
  where
    go : (b : Bool) (v : Option Text)
        → (k : ErrorKind) × (ks : Kinds) × ((if b then option_fault c false r v h else (if is_some v then kind.TooManyValues ∷ [] else react_fault c false r [] h)) ≡ k ∷ ks)
    go true None = (_, _, e)
    go true (Some x) = (_, _, λ i. or_else (e i) (use_fault false r (x ∷ []) (settled c h).rows))
    go false None = (_, _, λ i. or_else (e i) (use_fault false r [] (settled c h).rows))
    go false (Some x) = (_, _, refl)

pub missing-option : (name : Text) (c : List Rule) (p : ℕ) (q : Parameter) (rows : List Row) (w n : Text) (v : Option Text) (words : List Text)
    → IsKnown c q → is_flag q ≡ false → bytes_eq w (codes "--") ≡ false → long_of w ≡ Some (n, v)
    → run (made name c) (waiting_at p false (id_of q) rows) (w ∷ words) ≡ None
missing-option name c p q rows w n v words k no_flag whole long =
    let h = holding (id_of q) [] rows in
    let met = word_met c [] false (option (id_of q)) p w h in
    let m = long_missing c (arg_by_long c n) v h (missing c q rows k no_flag) in
    let fault : word_fault (top_of name c) [] false (option (id_of q)) w h ≡ m.0 ∷ m.1 =
    (λ i. if whole i then [] else flag_word_fault c false (long i) w h) ∙ m.2 in
    run-word (made name c) (waiting_at p false (id_of q) rows) w words (or_else (m.0 ∷ m.1) (step_fault (top_of name c) p met.0 met.1))
    (λ i. or_else (fault i) (step_fault (top_of name c) p met.0 met.1))

-- a text is the value
bytes_eq-refl : (x : Text) → bytes_eq x x ≡ true
bytes_eq-refl x = (bytes_eq-Decides x x).1 refl

waits : (r : Rule) (id : Text) (w : Text) (rows : List Row) → r.id ≡ id → TakesOne r
    → option_word (Some r) id w (holding id [] rows) ≡ (holding id (w ∷ []) rows, idle)
waits r id w rows same one =
    let h = holding id (w ∷ []) rows in
    (λ i. (h, if nat_lt (if bytes_eq id (same i) then 1 else 0) (one.most i) then option id else idle))
    ∙ (λ i. (h, if nat_lt (if bytes_eq-refl id i then 1 else 0) 1 then option id else idle))

pub value-taken : (name : Text) (c : List Rule) (p : ℕ) (q : Parameter) (rows : List Row) (w : Text) (words : List Text) (k : IsKnown c q) → TakesOne (placed q k.0) → IsPlain w
    → run (made name c) (waiting_at p false (id_of q) rows) (w ∷ words) ≡ run (made name c) (at p false (holding (id_of q) (w ∷ []) rows)) words
unfolding walked
value-taken name c p q rows w words k one plain =
    let id = id_of q in
    let h = holding id [] rows in
    let met : word_met c [] false (option id) p w h ≡ (holding id (w ∷ []) rows, next idle) =
    (λ i. if plain.0 i then (h, trailing p) else long_or_other c (option id) w (plain.1 i) h)
    ∙ ((λ i. short_or_plain c (option id) w (plain.2 i) h)
    ∙ ((λ i. ((option_word (k.1 i) id w h).0, next (option_word (k.1 i) id w h).1))
    ∙ (λ i. ((waits (placed q k.0) id w rows (placed-id q k.0) one i).0, next (waits (placed q k.0) id w rows (placed-id q k.0) one i).1)))) in
    let fault : word_fault (top_of name c) [] false (option id) w h ≡ [] =
    (λ i. if plain.0 i then [] else flag_word_fault c false (plain.1 i) w h)
    ∙ (λ i. option_map_or (λ flags. bundle_fault c false flags h) (plain.2 i) []) in
    run-word (made name c) (waiting_at p false id rows) w words []
    (λ i. or_else (fault i) (step_fault (top_of name c) p (met i).0 (met i).1))
    ∙ (λ i. run (made name c) (after_step c w (waiting_at p false id rows) (met i).0 (met i).1) words)
