-- `clap`'s walk gives to the parameters what the words give, by induction over the words. Used by the law of parameters.
use Rattle.std.proofs.Common.{◌≡◌, ◌∙◌, ◌+◌, ℕ, Bool, true, false, not, refl, sym, ap, subst, List, [], ◌∷◌, Option, Some, None, inl, inr, codes}
use Rattle.std.specs.Prelude.{min, if◌then◌else◌, ◌||◌, option_map, option_and_then}
use Rattle.clap.specs.Lexer.{usize_max, long_of}
use Rattle.clap.specs.Walk.{Held, Row, Rule, Text, option, idle, arg_by_long, arg_by_short, used}
use Rattle.clap.specs.Kinds.{Kinds}
use Rattle.clap.specs.Faults.{use_fault, repeat_fault}
use Rattle.command_words.specs.Parameters.{Parameter, id_of, is_flag, takes}
use Rattle.command_words.specs.Texts.{AreUtf8, Given, given_from, texts_from, giving, giving_place, giving_flag, giving_value, giving_option, option_in, option_named, name_in, value_in, is_divider, is_option}
use Rattle.command_words.proofs.WordKinds.{IsPlain, IsLong, IsShort, Kind, kind}
use Rattle.command_words.proofs.Places.{HavePlaces, IsKnown, after, after-none, placed, placed-id, placed-one, placed-takes, row_added, use-flag, use-value, used-flag, used-value}
use Rattle.command_words.proofs.Walks.{Settles, at, clean, clean-settles, end_rows, flag-alone, flag-valued, holding, holding-settles, made, missing-divided, missing-end, missing-option, option-alone, option-unknown, option-valued, run, run-divider, run-end, short-unknown, standing, text-placed, text-too_many, value-taken}

-- what is found by what is given, if these rows were found before it
abbrev pub found_from : Text → List Rule → List Row → List Given → Option (List Row)
found_from name c rows [] = end_rows name c rows
found_from name c rows (g ∷ given) = after (repeat_fault false g.0 rows) (found_from name c (row_added g.0 g.1 rows) given)

abbrev pub found_by : Text → List Rule → List Row → Option (List Given) → Option (List Row)
found_by name c rows given = option_and_then (found_from name c rows) given

more : (name : Text) (c : List Rule) (rows : List Row) (id value : Text) (rest : Option (List Given))
    → after (repeat_fault false id rows) (found_by name c (row_added id value rows) rest) ≡ found_by name c rows (option_map (λ g. (id, value) ∷ g) rest)
more name c rows id value None = after-none (repeat_fault false id rows)
more name c rows id value (Some given) = refl

more_value : (name : Text) (c : List Rule) (p : Parameter) (i : ℕ) (value : Text) (rows : List Row) (rest : Option (List Given)) → is_flag p ≡ false
    → after (use_fault false (placed p i) (value ∷ []) rows) (found_by name c (used (placed p i) (value ∷ []) rows) rest) ≡ found_by name c rows (giving p value rest)
more_value name c p i value rows rest no_flag =
    use-value p i value rows (found_by name c (used (placed p i) (value ∷ []) rows) rest) no_flag
    ∙ ((λ j. if takes p value then after (repeat_fault false (id_of p) rows) (found_by name c (used-value p i value rows no_flag j) rest) else None)
    ∙ go (takes p value))
  where
    go : (b : Bool) → (if b then after (repeat_fault false (id_of p) rows) (found_by name c (row_added (id_of p) value rows) rest) else None)
        ≡ found_by name c rows (if b then option_map (λ g. (id_of p, value) ∷ g) rest else None)
    go true = more name c rows (id_of p) value rest
    go false = refl

more_flag : (name : Text) (c : List Rule) (p : Parameter) (i : ℕ) (rows : List Row) (rest : Option (List Given)) → is_flag p ≡ true
    → after (use_fault false (placed p i) [] rows) (found_by name c (used (placed p i) [] rows) rest) ≡ found_by name c rows (giving_flag p None rest)
more_flag name c p i rows rest flag =
    (λ j. after (use-flag p i rows flag j) (found_by name c (used-flag p i rows flag j) rest)) ∙ more name c rows (id_of p) (codes "true") rest

-- ---- the options of a command

pub record HasOptions (c : List Rule) (all : List Parameter) : Type 0 where
  pub short : (x : ℕ) → arg_by_short c x ≡ None
  pub long : (name : Text) → arg_by_long c name ≡ option_map (λ q. placed q 0) (option_named all name)
  pub known : (name : Text) (q : Parameter) → option_named all name ≡ Some q → IsKnown c q

-- ---- what is given, by the first word

pub given-divider : (all places : List Parameter) (w : Text) (ws : List Text) → is_divider w ≡ true → given_from all places None (w ∷ ws) ≡ texts_from places ws
given-divider all places w ws whole =
    λ i. if whole i then texts_from places ws
    else if is_option w then giving_option (option_in all w) (value_in w) (λ waiting. given_from all places waiting ws)
    else giving_place places w (λ rest. given_from all rest None ws)

pub given-text : (all places : List Parameter) (w : Text) (ws : List Text) → is_divider w ≡ false → is_option w ≡ false
    → given_from all places None (w ∷ ws) ≡ giving_place places w (λ rest. given_from all rest None ws)
given-text all places w ws whole plain =
    (λ i. if whole i then texts_from places ws
    else if is_option w then giving_option (option_in all w) (value_in w) (λ waiting. given_from all places waiting ws)
    else giving_place places w (λ rest. given_from all rest None ws))
    ∙ (λ i. if plain i then giving_option (option_in all w) (value_in w) (λ waiting. given_from all places waiting ws)
    else giving_place places w (λ rest. given_from all rest None ws))

pub given-option : (all places : List Parameter) (w : Text) (ws : List Text) → is_divider w ≡ false → is_option w ≡ true
    → given_from all places None (w ∷ ws) ≡ giving_option (option_in all w) (value_in w) (λ waiting. given_from all places waiting ws)
given-option all places w ws whole plain =
    (λ i. if whole i then texts_from places ws
    else if is_option w then giving_option (option_in all w) (value_in w) (λ waiting. given_from all places waiting ws)
    else giving_place places w (λ rest. given_from all rest None ws))
    ∙ (λ i. if plain i then giving_option (option_in all w) (value_in w) (λ waiting. given_from all places waiting ws)
    else giving_place places w (λ rest. given_from all rest None ws))

-- ---- the induction

module _ (name : Text) (c : List Rule) (all : List Parameter) (has : HasOptions c all) where
  -- after `--`
  texts : (ws : List Text) (p : ℕ) (f : Kinds) (rows : List Row) (places : List Parameter) (h : Held) → Settles c h f rows → HavePlaces c p places
      → run (made name c) (at p true h) ws ≡ after f (found_by name c rows (texts_from places ws))
  texts [] p f rows places h s at_places = run-end name c idle p true h f rows s
  texts (w ∷ ws) p f rows [] h s at_places = text-too_many name c p true h w ws tt at_places ∙ sym (after-none f)
  texts (w ∷ ws) p f rows (q ∷ qs) h s at_places =
      let k = at_places.2 in
      text-placed name c p true h f rows q qs w ws tt s at_places
      ∙ ap (after f)
      (texts ws (min (p + 1) usize_max) (use_fault false (placed q k.0) (w ∷ []) rows) (used (placed q k.0) (w ∷ []) rows) qs
      (holding (id_of q) (w ∷ []) rows) (holding-settles c q (w ∷ []) rows k) at_places.3
      ∙ more_value name c q k.0 w rows (texts_from qs ws) at_places.1)

  -- what is to be shown of words: if nothing waits, and if an option waits for its value
  abbrev AtWords : List Text → Type 0
  AtWords ws = (p : ℕ) (f : Kinds) (rows : List Row) (places : List Parameter) (h : Held) → Settles c h f rows → HavePlaces c p places
      → run (made name c) (at p false h) ws ≡ after f (found_by name c rows (given_from all places None ws))

  abbrev AtValue : List Text → Type 0
  AtValue ws = (p : ℕ) (q : Parameter) (rows : List Row) (places : List Parameter) → is_flag q ≡ false → IsKnown c q → HavePlaces c p places
      → run (made name c) (standing (option (id_of q)) p false (holding (id_of q) [] rows)) ws ≡ found_by name c rows (given_from all places (Some q) ws)

  module _ (w : Text) (ws : List Text) (words : AtWords ws) (values : AtValue ws) where
    text_more : IsPlain w → is_option w ≡ false → AtWords (w ∷ ws)
    text_more plain none p f rows [] h s at_places =
        text-too_many name c p false h w ws plain at_places ∙ sym (ap (λ o. after f (found_by name c rows o)) (given-text all [] w ws plain.0 none) ∙ after-none f)
    text_more plain none p f rows (q ∷ qs) h s at_places =
        let k = at_places.2 in
        text-placed name c p false h f rows q qs w ws plain s at_places
        ∙ (ap (after f)
        (words (min (p + 1) usize_max) (use_fault false (placed q k.0) (w ∷ []) rows) (used (placed q k.0) (w ∷ []) rows) qs
        (holding (id_of q) (w ∷ []) rows) (holding-settles c q (w ∷ []) rows k) at_places.3
        ∙ more_value name c q k.0 w rows (given_from all qs None ws) at_places.1)
        ∙ sym (ap (λ o. after f (found_by name c rows o)) (given-text all (q ∷ qs) w ws plain.0 none)))

    short_more : is_option w ≡ true → is_divider w ≡ false → IsShort w → AtWords (w ∷ ws)
    short_more is whole short p f rows places h s at_places =
        short-unknown name c idle p w ws h has.short s.skip whole short.0 short.2
        ∙ sym (ap (λ o. after f (found_by name c rows o))
        (given-option all places w ws whole is
        ∙ (λ i. giving_option (if short.1 i then option_named all (name_in w) else None) (value_in w) (λ waiting. given_from all places waiting ws)))
        ∙ after-none f)

    long_more : is_option w ≡ true → is_divider w ≡ false → IsLong w → AtWords (w ∷ ws)
    long_more is whole long p f rows places h s at_places =
        go (option_named all (name_in w)) refl (value_in w) refl
        ∙ sym (ap (λ o. after f (found_by name c rows o))
        (given-option all places w ws whole is
        ∙ (λ i. giving_option (if long.1 i then option_named all (name_in w) else None) (value_in w) next_given)))
      where
        next_given : Option Parameter → Option (List Given)
        next_given waiting = given_from all places waiting ws

        by : (q : Parameter) (v : Option Text) (b : Bool) → option_named all (name_in w) ≡ Some q → long_of w ≡ Some (name_in w, v) → is_flag q ≡ b
            → run (made name c) (at p false h) (w ∷ ws) ≡ after f (found_by name c rows (if b then giving_flag q v (given_from all places None ws) else giving_value q v (λ waiting. given_from all places waiting ws)))
        by q None true found at_v flag =
            let r = placed q 0 in
            let is_r : arg_by_long c (name_in w) ≡ Some r = has.long (name_in w) ∙ ap (option_map (λ q. placed q 0)) found in
            flag-alone name c p h w (name_in w) ws f rows r whole is_r s at_v (placed-takes q 0 ∙ ap not flag)
            ∙ ap (after f)
            (ap (after (use_fault false r [] rows)) (words p [] (used r [] rows) places (clean (used r [] rows)) (clean-settles c (used r [] rows)) at_places)
            ∙ more_flag name c q 0 rows (given_from all places None ws) flag)
        by q (Some x) true found at_v flag =
            let r = placed q 0 in
            let is_r : arg_by_long c (name_in w) ≡ Some r = has.long (name_in w) ∙ ap (option_map (λ q. placed q 0)) found in
            flag-valued name c p h w (name_in w) ws f rows r whole is_r s x at_v (placed-takes q 0 ∙ ap not flag) ∙ sym (after-none f)
        by q None false found at_v flag =
            let r = placed q 0 in
            let is_r : arg_by_long c (name_in w) ≡ Some r = has.long (name_in w) ∙ ap (option_map (λ q. placed q 0)) found in
            option-alone name c p h w (name_in w) ws f rows r whole is_r s (id_of q) (placed-id q 0) at_v (placed-takes q 0 ∙ ap not flag)
            ∙ ap (after f) (values p q rows places flag (has.known (name_in w) q found) at_places)
        by q (Some x) false found at_v flag =
            let r = placed q 0 in
            let is_r : arg_by_long c (name_in w) ≡ Some r = has.long (name_in w) ∙ ap (option_map (λ q. placed q 0)) found in
            option-valued name c p h w (name_in w) ws f rows r whole is_r s x at_v (placed-takes q 0 ∙ ap not flag)
            ∙ ap (after f)
            (ap (after (use_fault false r (x ∷ []) rows)) (words p [] (used r (x ∷ []) rows) places (clean (used r (x ∷ []) rows)) (clean-settles c (used r (x ∷ []) rows)) at_places)
            ∙ more_value name c q 0 x rows (given_from all places None ws) flag)

        go : (o : Option Parameter) → option_named all (name_in w) ≡ o → (v : Option Text) → value_in w ≡ v
            → run (made name c) (at p false h) (w ∷ ws) ≡ after f (found_by name c rows (giving_option (option_named all (name_in w)) (value_in w) (λ waiting. given_from all places waiting ws)))
        go None e v e_v =
            option-unknown name c p h w (name_in w) (value_in w) ws whole long.0 (has.long (name_in w) ∙ ap (option_map (λ q. placed q 0)) e)
            ∙ sym (ap (λ o. after f (found_by name c rows (giving_option o (value_in w) (λ waiting. given_from all places waiting ws)))) e ∙ after-none f)
        go (Some q) e v e_v =
            by q v (is_flag q) e (long.0 ∙ ap (λ x. Some (name_in w, x)) e_v) refl
            ∙ sym (λ i. after f (found_by name c rows (giving_option (e i) (e_v i) (λ waiting. given_from all places waiting ws))))

    words_more : Kind w → AtWords (w ∷ ws)
    words_more (inl e) = subst (λ x. AtWords (x ∷ ws)) (sym e)
        (λ p f rows places h s at_places. run-divider (made name c) idle p h ws ∙ texts ws p f rows places h s at_places)
    words_more (inr (inl m)) = text_more m.1 m.0
    words_more (inr (inr (is, (whole, inl long)))) = long_more is whole long
    words_more (inr (inr (is, (whole, inr short)))) = short_more is whole short

    value_dashed : (is_divider w || is_option w) ≡ true → (places : List Parameter) (q : Parameter) (rows : List Row)
        → None ≡ found_by name c rows (given_from all places (Some q) (w ∷ ws))
    value_dashed e places q rows = λ i. found_by name c rows (if sym e i then None else giving q w (given_from all places None ws))

    or_true : (b : Bool) → is_option w ≡ true → (b || is_option w) ≡ true
    or_true true e = refl
    or_true false e = e

    value_more : Kind w → AtValue (w ∷ ws)
    value_more (inl e) = subst (λ x. AtValue (x ∷ ws)) (sym e)
        (λ p q rows places no_flag k at_places.
        run-divider (made name c) (option (id_of q)) p (holding (id_of q) [] rows) ws ∙ missing-divided name c p q rows places ws k no_flag at_places)
    value_more (inr (inl m)) = λ p q rows places no_flag k at_places.
        value-taken name c p q rows w ws k (placed-one q k.0 no_flag) m.1
        ∙ (words p (use_fault false (placed q k.0) (w ∷ []) rows) (used (placed q k.0) (w ∷ []) rows) places
        (holding (id_of q) (w ∷ []) rows) (holding-settles c q (w ∷ []) rows k) at_places
        ∙ (more_value name c q k.0 w rows (given_from all places None ws) no_flag
        ∙ (λ i. found_by name c rows (if sym (plain_word m.1.0 m.0) i then None else giving q w (given_from all places None ws)))))
      where
        plain_word : is_divider w ≡ false → is_option w ≡ false → (is_divider w || is_option w) ≡ false
        plain_word a b = (λ i. a i || is_option w) ∙ b
    value_more (inr (inr (is, (whole, inl long)))) = λ p q rows places no_flag k at_places.
        missing-option name c p q rows w (name_in w) (value_in w) ws k no_flag whole long.0
        ∙ value_dashed (or_true (is_divider w) is) places q rows
    value_more (inr (inr (is, (whole, inr short)))) = λ p q rows places no_flag k at_places.
        short-unknown name c (option (id_of q)) p w ws (holding (id_of q) [] rows) has.short refl whole short.0 short.2
        ∙ value_dashed (or_true (is_divider w) is) places q rows

  walked : (ws : List Text) → AreUtf8 ws → AtWords ws × AtValue ws
  walked [] u = (
    λ p f rows places h s at_places. run-end name c idle p false h f rows s,
    λ p q rows places no_flag k at_places. missing-end name c p false q rows k no_flag,
  )
  walked (w ∷ ws) u =
      let rest = walked ws u.1 in
      (words_more w ws rest.0 rest.1 (kind w u.0), value_more w ws rest.0 rest.1 (kind w u.0))

  -- the walk over all the words
  pub found-given : (ws : List Text) → AreUtf8 ws → (places : List Parameter) → HavePlaces c 1 places
      → run (made name c) (at 1 false (clean [])) ws ≡ found_by name c [] (given_from all places None ws)
  found-given ws u places at_places = (walked ws u).0 1 [] [] places (clean []) (clean-settles c []) at_places
