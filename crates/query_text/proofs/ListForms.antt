-- Lists: what the walk reads item by item is what the items stand for.
-- The proofs on sums, variables, regions and constraints use it.
use Rattle.std.proofs.Common.{◌≡◌, Bool, true, false, ◌&&◌, List, [], ◌∷◌, ◌++◌, refl, sym, ap, subst, ◌∙◌, append_assoc, append-nil}
use Rattle.std.proofs.lemmas.Option.{none-some, same_Some}
use Rattle.std.specs.Prelude.{Option, None, Some, Ok, All, length, option_and_then, option_map}
use Rattle.std.proofs.Math.Seq.{take-append_seam, drop-append_seam}
use Rattle.std.proofs.lemmas.List.Elements.{All-take, All-drop, All-head}
use Rattle.serde_json.specs.Data.{Data}
use Rattle.query_text.specs.Form.{where_true, every}
use Rattle.query_text.specs.Walk.{Walked, walk_fold, appending, walk_each}
use Rattle.query_text.proofs.Agrees.{Agrees, agrees_ok, agrees_form, agrees_then, agrees_map}

pub then-then : {X Y Z : Type 0} (h : Y → Option Z) (g : X → Option Y) (o : Option X) → option_and_then h (option_and_then g o) ≡ option_and_then (λ x. option_and_then h (g x)) o
then-then h g None = refl
then-then h g (Some x) = refl

pub then-where : {X Y : Type 0} (h : X → Option Y) (b : Bool) (o : Option X) → option_and_then h (where_true b o) ≡ where_true b (option_and_then h o)
then-where h true o = refl
then-where h false o = refl

pub then_none : {X Y : Type 0} (g : X → Option Y) (o : Option X) → ((x : X) → g x ≡ None) → option_and_then g o ≡ None
then_none g None none = refl
then_none g (Some x) none = none x

pub then_itself : {X : Type 0} (o : Option X) → option_and_then (λ x. Some x) o ≡ o
then_itself None = refl
then_itself (Some x) = refl

pub then_some : {X Y : Type 0} (g : X → Option Y) (o : Option X) (y : Y) → option_and_then g o ≡ Some y → (x : X) × (o ≡ Some x) × (g x ≡ Some y)
then_some g None y e = absurd (none-some y e)
then_some g (Some x) y e = (x, refl, e)

pub where_some : {X : Type 0} (b : Bool) (x y : X) → where_true b (Some x) ≡ Some y → (b ≡ true) × (x ≡ y)
where_some true x y e = (refl, same_Some x y e)
where_some false x y e = absurd (none-some y e)

-- ---- a state that is joined with each item

module _ {X Y : Type 0} (join : X → List Y → Option X) (form : Data → Option Y) (step : X → Data → Walked X) (P Good : X → Type 0)
    (stays : (x : X) → Good x → join x [] ≡ Some x)
    (splits : (x : X) (y : Y) (ys : List Y) → join x (y ∷ ys) ≡ option_and_then (λ z. join z ys) (join x (y ∷ [])))
    (good : (x : X) (y : Y) (z : X) → Good x → join x (y ∷ []) ≡ Some z → Good z)
    (back : (x : X) (ys : List Y) (z : X) → join x ys ≡ Some z → P z → P x)
    (steps : (x : X) (d : Data) → Good x → Agrees P (option_and_then (λ y. join x (y ∷ [])) (form d)) (step x d)) where
  one_more : (x : X) (y : Y) (o : Option (List Y)) → option_and_then (join x) (option_map (λ ys. y ∷ ys) o) ≡ option_and_then (λ z. option_and_then (join z) o) (join x (y ∷ []))
  one_more x y None = sym (then_none (λ z. None) (join x (y ∷ [])) (λ z. refl))
  one_more x y (Some ys) = splits x y ys

  first_of_all : (x : X) (o : Option Y) (all : Option (List Y))
      → option_and_then (join x) (option_and_then (λ y. option_map (λ ys. y ∷ ys) all) o) ≡ option_and_then (λ z. option_and_then (join z) all) (option_and_then (λ y. join x (y ∷ [])) o)
  first_of_all x None all = refl
  first_of_all x (Some y) all = one_more x y all

  good_after : (x z : X) (o : Option Y) → Good x → option_and_then (λ y. join x (y ∷ [])) o ≡ Some z → Good z
  good_after x z None g e = absurd (none-some z e)
  good_after x z (Some y) g e = good x y z g e

  fold_back : (x z : X) (o : Option (List Y)) → option_and_then (join x) o ≡ Some z → P z → P x
  fold_back x z None e p = absurd (none-some z e)
  fold_back x z (Some ys) e p = back x ys z e p

  pub agrees_fold : (ds : List Data) (x : X) → Good x → Agrees P (option_and_then (join x) (every form ds)) (walk_fold step x ds)
  agrees_fold [] x g = agrees_form P (join x []) (Some x) (Ok x) (stays x g) (agrees_ok P x)
  agrees_fold (d ∷ ds) x g =
      agrees_form P _ _ _ (first_of_all x (form d) (every form ds))
      (agrees_then P P (option_and_then (λ y. join x (y ∷ [])) (form d)) (step x d) (λ z. option_and_then (join z) (every form ds)) (λ z. walk_fold step z ds)
      (steps x d g) (λ z e. agrees_fold ds z (good_after x z (form d) g e)) (λ z w e. fold_back z w (every form ds)))

-- ---- what is read is appended to what was read before

pub all_prefix : {X : Type 0} (P : X → Type 0) (xs ys : List X) → All P (xs ++ ys) → All P xs
all_prefix P xs ys all = subst (All P) (take-append_seam xs ys) (All-take P (length xs) (xs ++ ys) all)

pub all_suffix : {X : Type 0} (P : X → Type 0) (xs ys : List X) → All P (xs ++ ys) → All P ys
all_suffix P xs ys all = subst (All P) (drop-append_seam xs ys) (All-drop P (length xs) (xs ++ ys) all)

-- a list that keeps the rule, if each item is compatible with the items before it
module _ {X : Type 0} (rule : List X → Bool) (fits : List X → X → Bool) (form : Data → Option X) (step : List X → Data → Walked X) (P : X → Type 0)
    (begins : rule [] ≡ true)
    (goes_on : (xs : List X) (x : X) → rule (xs ++ x ∷ []) ≡ rule xs && fits xs x)
    (breaks : (xs ys : List X) → rule xs ≡ false → rule (xs ++ ys) ≡ false)
    (steps : (xs : List X) (d : Data) → Agrees P (option_and_then (λ x. where_true (fits xs x) (Some x)) (form d)) (step xs d)) where
  -- the list, if it keeps the rule
  kept : List X → Option (List X)
  kept xs = where_true (rule xs) (Some xs)

  -- two lists one after the other, if both together keep it
  joined : List X → List X → Option (List X)
  joined xs ys = kept (xs ++ ys)

  joined_splits : (xs : List X) (y : X) (ys : List X) → joined xs (y ∷ ys) ≡ option_and_then (λ zs. joined zs ys) (joined xs (y ∷ []))
  unfolding joined kept
  joined_splits xs y ys = by (rule (xs ++ y ∷ [])) refl
    where
      by : (b : Bool) → rule (xs ++ y ∷ []) ≡ b → kept (xs ++ y ∷ ys) ≡ option_and_then (λ zs. kept (zs ++ ys)) (where_true b (Some (xs ++ y ∷ [])))
      by true e = ap kept (sym (append_assoc xs (y ∷ []) ys))
      by false e = ap kept (sym (append_assoc xs (y ∷ []) ys)) ∙ ap (λ b. where_true b (Some ((xs ++ y ∷ []) ++ ys))) (breaks (xs ++ y ∷ []) ys e)

  joined_steps : (xs : List X) (d : Data) → rule xs ≡ true → Agrees (All P) (option_and_then (λ y. joined xs (y ∷ [])) (form d)) (appending step xs d)
  unfolding joined kept
  joined_steps xs d g =
      agrees_form (All P) _ _ _ (by (form d))
      (agrees_map P (All P) (option_and_then (λ x. where_true (fits xs x) (Some x)) (form d)) (step xs d) (λ x. xs ++ x ∷ []) (steps xs d) (λ x e all. All-head P x [] (all_suffix P xs (x ∷ []) all)))
    where
      one : (y : X) (b : Bool) → where_true b (Some (xs ++ y ∷ [])) ≡ option_map (λ x. xs ++ x ∷ []) (where_true b (Some y))
      one y true = refl
      one y false = refl

      by : (o : Option X) → option_and_then (λ y. kept (xs ++ y ∷ [])) o ≡ option_map (λ x. xs ++ x ∷ []) (option_and_then (λ x. where_true (fits xs x) (Some x)) o)
      by None = refl
      by (Some y) = ap (λ b. where_true b (Some (xs ++ y ∷ []))) (goes_on xs y ∙ ap (λ b. b && fits xs y) g) ∙ one y (fits xs y)

  pub agrees_list : (ds : List Data) → Agrees (All P) (option_and_then (λ xs. where_true (rule xs) (Some xs)) (every form ds)) (walk_each step ds)
  unfolding joined kept
  agrees_list ds =
      agrees_fold joined form (appending step) (All P) (λ xs. rule xs ≡ true)
      (λ xs g. ap kept (append-nil xs) ∙ ap (λ b. where_true b (Some xs)) g)
      joined_splits
      (λ xs y zs g e. let w = where_some (rule (xs ++ y ∷ [])) (xs ++ y ∷ []) zs e in subst (λ l. rule l ≡ true) w.1 w.0)
      (λ xs ys zs e all. let w = where_some (rule (xs ++ ys)) (xs ++ ys) zs e in all_prefix P xs ys (subst (All P) (sym w.1) all))
      joined_steps ds [] begins

-- a list with no rule
pub agrees_every : {X : Type 0} (form : Data → Option X) (step : List X → Data → Walked X) (P : X → Type 0)
    → ((xs : List X) (d : Data) → Agrees P (form d) (step xs d)) → (ds : List Data) → Agrees (All P) (every form ds) (walk_each step ds)
agrees_every {X} form step P steps ds =
    agrees_form (All P) _ _ _ (sym (then_itself (every form ds)))
    (agrees_list (λ (xs : List X). true) (λ xs x. true) form step P refl (λ xs x. refl) (λ xs ys e. e) (λ xs d. agrees_form P _ _ _ (then_itself (form d)) (steps xs d)) ds)
