-- Names that are not used before: what is read is what the value stands for.
use Rattle.std.proofs.Common.{◌≡◌, ℕ, suc, ◌+◌, Bool, true, false, cond, not, ◌||◌, nat_lt, List, [], ◌∷◌, length, refl, sym, ap, ◌∙◌, arith}
use Rattle.std.proofs.lemmas.Bool.Decides.{nat_tests}
use Rattle.std.proofs.lemmas.Option.{none-some, same_Some}
use Rattle.std.specs.Prelude.{Option, None, Some, Ok, Err, is_some, option_and_then, option_map, if◌then◌else◌}
use Rattle.std.specs.List.{list_any, position, position_or_len}
use Rattle.std.specs.Str.{bytes_eq}
use Rattle.serde_json.specs.Data.{Data}
use Rattle.serde_json.specs.Find.{as_str}
use Rattle.query_model.specs.declared.parts.Name.{Name}
use Rattle.query_model.specs.NameForm.{is_name, name_of}
use Rattle.query_text.specs.declared.location.Location.{Location}
use Rattle.query_text.specs.declared.refusal.QueryRefusal.{QueryRefusal}
use Rattle.query_text.specs.Form.{where_true}
use Rattle.query_text.specs.Walk.{Walked, ◌>>=◌, or_refuse, refuse_if, walk_new_name}
use Rattle.query_text.proofs.Agrees.{Agrees, agrees_none, agrees_form, agrees_walk, agrees_unless}
use Rattle.query_text.proofs.Differing.{differs}

some_if : {X : Type 0} (b : Bool) (x : X) → is_some (cond b (Some x) None) ≡ b
some_if true x = refl
some_if false x = refl

one_less : (m n : ℕ) → nat_lt (1 + m) (suc n) ≡ nat_lt m n
one_less m n = grind (arith, nat_tests)

position_below-cons : (passes any : Bool) (m n : ℕ) → nat_lt m n ≡ any → nat_lt (cond (not passes) (1 + m) 0) (suc n) ≡ (passes || any)
position_below-cons true any m n e = grind (arith, nat_tests)
position_below-cons false any m n e = one_less m n ∙ e

position_below : {X : Type 0} (test : X → Bool) (xs : List X) → nat_lt (position_or_len test xs) (length xs) ≡ list_any test xs
position_below test [] = refl
position_below test (x ∷ xs) = position_below-cons (test x) (list_any test xs) (position_or_len test xs) (length xs) (position_below test xs)

-- there is a first position if one passes
pub is_some-position : {X : Type 0} (test : X → Bool) (xs : List X) → is_some (position test xs) ≡ list_any test xs
is_some-position test xs = some_if (nat_lt (position_or_len test xs) (length xs)) (position_or_len test xs) ∙ position_below test xs

-- a name that is not taken
pub agrees_unused : {X : Type 0} (P : X → Type 0) (name : X → List ℕ) (before : List X) (text : List ℕ) (r : QueryRefusal) (f : Option X) (w : Walked X)
    → ((x : X) → f ≡ Some x → name x ≡ text) → Agrees P f w
    → Agrees P (option_and_then (λ x. where_true (differs (λ y z. bytes_eq (name y) (name z)) before x) (Some x)) f) (refuse_if (is_some (position (λ y. bytes_eq (name y) text) before)) r >>= (λ _. w))
agrees_unused {X} P name before text r f w named h =
    agrees_form P _ _ _ (by f named ∙ ap (λ b. where_true (not b) f) (sym (is_some-position (λ y. bytes_eq (name y) text) before)))
    (agrees_unless P (is_some (position (λ y. bytes_eq (name y) text) before)) r f w (λ e. h))
  where
    nothing : (b : Bool) (o : Option X) → o ≡ None → o ≡ where_true b o
    nothing true o e = refl
    nothing false o e = e

    by : (o : Option X) → ((x : X) → o ≡ Some x → name x ≡ text)
        → option_and_then (λ x. where_true (differs (λ y z. bytes_eq (name y) (name z)) before x) (Some x)) o ≡ where_true (not (list_any (λ y. bytes_eq (name y) text) before)) o
    by None named = nothing (not (list_any (λ y. bytes_eq (name y) text) before)) None refl
    by (Some x) named = ap (λ t. where_true (not (list_any (λ y. bytes_eq (name y) t) before)) (Some x)) (named x refl)

then_new : {X : Type 0} (b : Bool) (r : QueryRefusal) (n : Name) (k : Name → Walked X) → (refuse_if b r >>= (λ _. Ok n)) >>= k ≡ refuse_if b r >>= (λ _. k n)
then_new true r n k = refl
then_new false r n k = refl

-- a text of the form of names that is not taken
module _ {X : Type 0} (P : X → Type 0) (name : X → List ℕ) (before : List X) (at : Location) (g : Name → Option X) (k : Name → Walked X)
    (named : (text : List ℕ) (x : X) → g (name_of text) ≡ Some x → name x ≡ text)
    (next : (text : List ℕ) → Agrees P (g (name_of text)) (k (name_of text))) where
  -- the item, if its name is not used before
  where_unused : X → Option X
  where_unused x = where_true (differs (λ y z. bytes_eq (name y) (name z)) before x) (Some x)

  -- an earlier item has the name
  is_taken : List ℕ → Bool
  is_taken text = is_some (position (λ y. bytes_eq (name y) text) before)

  one_name : (text : List ℕ) (b : Bool)
      → Agrees P (option_and_then (λ n. option_and_then where_unused (g n)) (where_true b (Some (name_of text))))
      (((if b then Ok text else Err (QueryRefusal.Name at)) >>= (λ t. refuse_if (is_taken t) (QueryRefusal.Repeated at) >>= (λ _. Ok (name_of t)))) >>= k)
  unfolding where_unused is_taken
  one_name text true =
      agrees_walk P _ _ _ (then_new (is_taken text) (QueryRefusal.Repeated at) (name_of text) k)
      (agrees_unused P name before text (QueryRefusal.Repeated at) (g (name_of text)) (k (name_of text)) (named text) (next text))
  one_name text false = agrees_none P (QueryRefusal.Name at)

  pub agrees_new_name : (found : Option Data)
      → Agrees P (option_and_then (λ n. option_and_then (λ x. where_true (differs (λ y z. bytes_eq (name y) (name z)) before x) (Some x)) (g n)) (option_and_then (λ text. where_true (is_name text) (Some (name_of text))) (option_and_then as_str found)))
      (walk_new_name (λ text. is_some (position (λ y. bytes_eq (name y) text) before)) at found >>= k)
  unfolding where_unused is_taken
  agrees_new_name found = by (option_and_then as_str found)
    where
      by : (o : Option (List ℕ))
          → Agrees P (option_and_then (λ n. option_and_then where_unused (g n)) (option_and_then (λ text. where_true (is_name text) (Some (name_of text))) o))
          (((or_refuse (QueryRefusal.Shape at) o >>= (λ text. if is_name text then Ok text else Err (QueryRefusal.Name at))) >>= (λ t. refuse_if (is_taken t) (QueryRefusal.Repeated at) >>= (λ _. Ok (name_of t)))) >>= k)
      by None = agrees_none P (QueryRefusal.Shape at)
      by (Some text) = one_name text (is_name text)

-- the name of an item that is made of two parts
pub name_of_two : {X Y Z : Type 0} (make : X → Y → Z) (name : Z → List ℕ) (text : List ℕ) → ((x : X) (y : Y) → name (make x y) ≡ text)
    → (o : Option X) (p : Option Y) (z : Z) → option_and_then (λ x. option_map (λ y. make x y) p) o ≡ Some z → name z ≡ text
name_of_two make name text named None p z e = absurd (none-some z e)
name_of_two make name text named (Some x) None z e = absurd (none-some z e)
name_of_two make name text named (Some x) (Some y) z e = ap name (sym (same_Some (make x y) z e)) ∙ named x y
