-- Items that are appended by one step after another, to a list that may be unknown.
-- Used by what writes and prints, and by what opens files.
use Rattle.std.proofs.Common.{◌≡◌, ℕ, ◌+◌, ◌<◌, ◌≤◌, List, [], ◌∷◌, ◌++◌, get_or, flat_map, subst, length, take, drop, Option, Some, None, refl, sym, ap, ◌∙◌, append_assoc, append-nil}
use Rattle.std.proofs.Math.Seq.{take-add}
use Rattle.std.proofs.lemmas.List.{take-take, take-append-drop, take_more}
use Rattle.std.proofs.lemmas.Grind.{flat_map-append}
use Rattle.lists.specs.Appending.{appended, AppendsPrefix}

pub appended-appended : {X : Type 0} (old : Option (List X)) (xs ys : List X) → appended (appended old xs) ys ≡ appended old (xs ++ ys)
appended-appended None xs ys = refl
appended-appended (Some all) xs ys = ap Some (append_assoc all xs ys)

pub appended-nil : {X : Type 0} (old : Option (List X)) → appended old [] ≡ old
appended-nil None = refl
appended-nil (Some all) = ap Some (append-nil all)

-- ---- prefixes

-- all of the items is a prefix of them
pub prefix_whole : {X : Type 0} (old new : Option (List X)) (xs : List X) → new ≡ appended old xs → AppendsPrefix old xs new
prefix_whole old new xs e = (xs, ([], append-nil xs), e)

-- nothing is a prefix of any items
pub prefix_nothing : {X : Type 0} (old : Option (List X)) (xs : List X) → AppendsPrefix old xs old
prefix_nothing old xs = ([], (xs, refl), sym (appended-nil old))

-- a prefix of no items is nothing
pub prefix_of_nil : {X : Type 0} (old new : Option (List X)) → AppendsPrefix old [] new → new ≡ old
prefix_of_nil {X} old new h =
    let none : h.0 ≡ [] = nil_of_append h.0 h.1.0 h.1.1 in h.2 ∙ ap (appended old) none ∙ appended-nil old
  where
    nil_of_append : (xs ys : List X) → xs ++ ys ≡ [] → xs ≡ []
    nil_of_append [] ys e = refl
    nil_of_append (x ∷ xs) ys e = cc

-- a prefix of the second items, after all of the first, is a prefix of both
pub prefix_after : {X : Type 0} (old mid new : Option (List X)) (xs ys : List X) → mid ≡ appended old xs → AppendsPrefix mid ys new → AppendsPrefix old (xs ++ ys) new
prefix_after old mid new xs ys e h =
    (xs ++ h.0, (h.1.0, append_assoc xs h.0 h.1.0 ∙ ap (λ l. xs ++ l) h.1.1), h.2 ∙ ap (λ known. appended known h.0) e ∙ appended-appended old xs h.0)

-- a prefix of the first items is a prefix of both
pub prefix_within : {X : Type 0} (old new : Option (List X)) (xs ys : List X) → AppendsPrefix old xs new → AppendsPrefix old (xs ++ ys) new
prefix_within old new xs ys h = (h.0, (h.1.0 ++ ys, sym (append_assoc h.0 h.1.0 ys) ∙ ap (λ l. l ++ ys) h.1.1), h.2)

-- ---- one piece, in parts

-- m more items of a piece of which n were appended
pub appended_more : {X : Type 0} (old mid new : Option (List X)) (piece : List X) (n m k : ℕ) → mid ≡ appended old (take n piece) → m ≤ k → new ≡ appended mid (take m (take k (drop n piece))) → new ≡ appended old (take (n + m) piece)
appended_more old mid new piece n m k before short wrote =
    wrote ∙ ap (appended mid) (take-take m k (drop n piece) short) ∙ ap (λ known. appended known (take m (drop n piece))) before
    ∙ appended-appended old (take n piece) (take m (drop n piece)) ∙ ap (appended old) (sym (take-add n m piece))

-- n items of a piece are a prefix of it
pub prefix_of_take : {X : Type 0} (old mid new : Option (List X)) (piece : List X) (n : ℕ) → mid ≡ appended old (take n piece) → new ≡ mid → AppendsPrefix old piece new
prefix_of_take old mid new piece n before same = (take n piece, (drop n piece, take-append-drop n piece), same ∙ before)

-- ---- the piece that f makes of each item, one after the other

module _ {X Y : Type 0} (f : X → List Y) (xs : List X) (i : ℕ) (x : X) (below : i < length xs) (is_x : x ≡ get_or xs i x) where
  flat_map-take_more : flat_map f (take (i + 1) xs) ≡ flat_map f (take i xs) ++ f x
  flat_map-take_more =
      ap (flat_map f) (take_more xs i x below) ∙ flat_map-append f (take i xs) (get_or xs i x ∷ [])
      ∙ ap (λ l. flat_map f (take i xs) ++ l) (append-nil (f (get_or xs i x)) ∙ ap f (sym is_x))

  -- the piece of one more item
  pub pieces_more : (old mid new : Option (List Y)) → mid ≡ appended old (flat_map f (take i xs)) → new ≡ appended mid (f x) → new ≡ appended old (flat_map f (take (i + 1) xs))
  pieces_more old mid new before wrote =
      wrote ∙ ap (λ known. appended known (f x)) before ∙ appended-appended old (flat_map f (take i xs)) (f x) ∙ ap (appended old) (sym flat_map-take_more)

  -- a prefix of the next piece, after the pieces before it, is a prefix of all
  pub pieces_prefix : (old mid new : Option (List Y)) → mid ≡ appended old (flat_map f (take i xs)) → AppendsPrefix mid (f x) new → AppendsPrefix old (flat_map f xs) new
  pieces_prefix old mid new before part =
      let first = take (i + 1) xs in
      let so_far : AppendsPrefix old (flat_map f first) new =
      subst (λ l. AppendsPrefix old l new) (sym flat_map-take_more) (prefix_after old mid new (flat_map f (take i xs)) (f x) before part) in
      let whole : flat_map f first ++ flat_map f (drop (i + 1) xs) ≡ flat_map f xs =
      sym (flat_map-append f first (drop (i + 1) xs)) ∙ ap (flat_map f) (take-append-drop (i + 1) xs) in
      subst (λ l. AppendsPrefix old l new) whole (prefix_within old new (flat_map f first) (flat_map f (drop (i + 1) xs)) so_far)
