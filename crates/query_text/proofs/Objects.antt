-- Objects and their keys. If one more key is allowed, an object without that key is one of the others.
use Rattle.std.proofs.Common.{◌≡◌, ℕ, Bool, true, false, cond, Ordering, ◌&&◌, ◌||◌, List, ◌∷◌, ◌++◌, refl, sym, ap, subst, ◌∙◌}
use Rattle.std.proofs.lemmas.List.Folds.{list_any-append}
use Rattle.std.proofs.lemmas.Map.Text.{is_eq-slice_cmp}
use Rattle.std.proofs.lemmas.Slice.Eq.{bytes_eq-Decides}
use Rattle.std.proofs.lemmas.Cmp.{nat_list_eq_equiv}
use Rattle.std.specs.Prelude.{Option, Some, is_none}
use Rattle.std.specs.List.{list_any}
use Rattle.std.specs.Str.{bytes_eq}
use Rattle.std.specs.Ordering.{is_eq, nat_cmp, match_ordering}
use Rattle.std.specs.Cmp.Lexicographic.{slice_cmp}
use Rattle.serde_json.specs.Data.{Data, null, boolean, number, string, array, object, Members, no_members, member}
use Rattle.serde_json.specs.Find.{get, get_member}
use Rattle.query_text.specs.declared.location.Location.{Location}
use Rattle.query_text.specs.declared.refusal.QueryRefusal.{QueryRefusal}
use Rattle.query_text.specs.Form.{where_true, is_object_of}
use Rattle.query_text.specs.Json.{has_only}
use Rattle.query_text.specs.Walk.{Walked, ◌>>=◌, walk_object}
use Rattle.query_text.proofs.Agrees.{Agrees, agrees_none, agrees_where}

pub agrees_object : {X : Type 0} (P : X → Type 0) (keys : List (List ℕ)) (at : Location) (d : Data) (f : Option X) (w : Walked X)
    → Agrees P f w → Agrees P (where_true (is_object_of keys d) f) (walk_object keys at d >>= (λ _. w))
agrees_object P keys at null f w h = agrees_none P (QueryRefusal.Shape at)
agrees_object P keys at (boolean b) f w h = agrees_none P (QueryRefusal.Shape at)
agrees_object P keys at (number n) f w h = agrees_none P (QueryRefusal.Shape at)
agrees_object P keys at (string s) f w h = agrees_none P (QueryRefusal.Shape at)
agrees_object P keys at (array ds) f w h = agrees_none P (QueryRefusal.Shape at)
agrees_object P keys at (object ms) f w h = agrees_where P (has_only keys ms) (QueryRefusal.UnknownKey at) f w (λ e. h)

-- ---- one more key

by_key : (o : Ordering) (g : Option Data) (d : Data) → match_ordering o g (Some d) g ≡ cond (is_eq o) (Some d) g
by_key Ordering.Less g d = refl
by_key Ordering.Equal g d = refl
by_key Ordering.Greater g d = refl

get_member-member : (k l : List ℕ) (d : Data) (ms : Members) → get_member k (member l d ms) ≡ cond (bytes_eq k l) (Some d) (get_member k ms)
get_member-member k l d ms = by_key (slice_cmp nat_cmp k l) (get_member k ms) d ∙ ap (λ b. cond b (Some d) (get_member k ms)) (is_eq-slice_cmp k l)

-- a test of an item, of the key and of the rest, if the key is none of the others
and_steps : (others key rest absent all : Bool) (d : Data) (g : Option Data) → (key ≡ true → others ≡ false) → rest && is_none g ≡ all
    → ((others || key) && rest) && is_none (cond key (Some d) g) ≡ others && all
and_steps true true rest absent all d g apart e = let no = apart refl in absurd (cc)
and_steps true false rest absent all d g apart e = e
and_steps false true true absent all d g apart e = refl
and_steps false true false absent all d g apart e = refl
and_steps false false rest absent all d g apart e = refl

module _ (before after : List (List ℕ)) (k : List ℕ) (apart : list_any (bytes_eq k) (before ++ after) ≡ false) where
  or_parts : (a b c : Bool) → a || (b || c) ≡ (a || c) || b
  or_parts true b c = refl
  or_parts false true true = refl
  or_parts false true false = refl
  or_parts false false true = refl
  or_parts false false false = refl

  one_of : (l : List ℕ) → list_any (bytes_eq l) (before ++ k ∷ after) ≡ list_any (bytes_eq l) (before ++ after) || bytes_eq k l
  one_of l =
      list_any-append (bytes_eq l) before (k ∷ after) ∙ or_parts (list_any (bytes_eq l) before) (bytes_eq l k) (list_any (bytes_eq l) after)
      ∙ ap (λ b. b || bytes_eq l k) (sym (list_any-append (bytes_eq l) before after)) ∙ ap (λ b. list_any (bytes_eq l) (before ++ after) || b) (nat_list_eq_equiv.symm l k)

  not_other : (l : List ℕ) → bytes_eq k l ≡ true → list_any (bytes_eq l) (before ++ after) ≡ false
  not_other l e = subst (λ m. list_any (bytes_eq m) (before ++ after) ≡ false) ((bytes_eq-Decides k l).0 e) apart

  members_without : (ms : Members) → has_only (before ++ k ∷ after) ms && is_none (get_member k ms) ≡ has_only (before ++ after) ms
  members_without no_members = refl
  members_without (member l d ms) =
      let others = list_any (bytes_eq l) (before ++ after) in
      let rest = has_only (before ++ k ∷ after) ms in
      ap (λ b. (b && rest) && is_none (get_member k (member l d ms))) (one_of l)
      ∙ ap (λ g. ((others || bytes_eq k l) && rest) && is_none g) (get_member-member k l d ms)
      ∙ and_steps others (bytes_eq k l) rest true (has_only (before ++ after) ms) d (get_member k ms) (not_other l) (members_without ms)

  pub object_without : (d : Data) → is_object_of (before ++ k ∷ after) d && is_none (get k d) ≡ is_object_of (before ++ after) d
  object_without null = refl
  object_without (boolean b) = refl
  object_without (number n) = refl
  object_without (string s) = refl
  object_without (array ds) = refl
  object_without (object ms) = members_without ms
