-- How the steps of the walk and the form agree: what is read is what the value stands for, and only a limit refuses such a value.
use Rattle.std.proofs.Common.{◌≡◌, Bool, true, false, not, refl, sym, ap, subst}
use Rattle.std.proofs.lemmas.Option.{none-some, same_Some}
use Rattle.std.specs.Prelude.{Option, None, Some, Ok, Err, option_and_then, option_map}
use Rattle.query_text.specs.declared.refusal.QueryRefusal.{QueryRefusal}
use Rattle.query_text.specs.Form.{where_true}
use Rattle.query_text.specs.Limits.{IsLimit}
use Rattle.query_text.specs.Walk.{Walked, ◌>>=◌, or_refuse, refuse_if}

-- what is read is what it stands for; if it stands for something, it is refused only for a limit that P does not keep
pub record Agrees {X : Type 0} (P : X → Type 0) (form : Option X) (walked : Walked X) : Type 0 where
  pub accepted : (x : X) → walked ≡ Ok x → form ≡ Some x
  pub refused : (x : X) (r : QueryRefusal) → form ≡ Some x → walked ≡ Err r → IsLimit r × (P x → ⊥)

pub agrees_ok : {X : Type 0} (P : X → Type 0) (x : X) → Agrees P (Some x) (Ok x)
agrees_ok P x = record { accepted = λ y h. cc; refused = λ y r h e. absurd (cc) }

pub agrees_none : {X : Type 0} (P : X → Type 0) (r : QueryRefusal) → Agrees P None (Err r)
agrees_none P r = record { accepted = λ y h. cc; refused = λ y s h e. absurd (cc) }

-- refused for a limit
pub agrees_limit : {X : Type 0} (P : X → Type 0) (f : Option X) (r : QueryRefusal) → IsLimit r → ((x : X) → f ≡ Some x → P x → ⊥) → Agrees P f (Err r)
agrees_limit P f r limit beyond = record {
  accepted = λ y h. cc;
  refused = λ y s h e. let same : r ≡ s = cc in (subst IsLimit same limit, beyond y h);
}

-- the same, for a form that is equal
pub agrees_form : {X : Type 0} (P : X → Type 0) (f g : Option X) (w : Walked X) → f ≡ g → Agrees P g w → Agrees P f w
agrees_form P f g w e h = subst (λ o. Agrees P o w) (sym e) h

-- the same, for a walk that is equal
pub agrees_walk : {X : Type 0} (P : X → Type 0) (f : Option X) (v w : Walked X) → v ≡ w → Agrees P f w → Agrees P f v
agrees_walk P f v w e h = subst (λ o. Agrees P f o) (sym e) h

-- the same, for a property that says more
pub agrees_more : {X : Type 0} (P Q : X → Type 0) (f : Option X) (w : Walked X) → ((x : X) → f ≡ Some x → Q x → P x) → Agrees P f w → Agrees Q f w
agrees_more P Q f w more h = record {
  accepted = h.accepted;
  refused = λ x r e g. let both = h.refused x r e g in (both.0, λ q. both.1 (more x e q));
}

-- ---- one step and then the next

then_refused : {X Y : Type 0} (P : X → Type 0) (Q : Y → Type 0) (f : Option X) (g : X → Option Y) (r : QueryRefusal)
    → Agrees P f (Err r) → ((x : X) (y : Y) → f ≡ Some x → g x ≡ Some y → Q y → P x) → (y : Y) (s : QueryRefusal) → option_and_then g f ≡ Some y → r ≡ s → IsLimit s × (Q y → ⊥)
then_refused P Q None g r h link y s e same = absurd (none-some y e)
then_refused P Q (Some x) g r h link y s e same =
    let both = h.refused x r refl refl in (subst IsLimit same both.0, λ q. both.1 (link x y refl e q))

pub agrees_then : {X Y : Type 0} (P : X → Type 0) (Q : Y → Type 0) (f : Option X) (w : Walked X) (g : X → Option Y) (k : X → Walked Y)
    → Agrees P f w → ((x : X) → f ≡ Some x → Agrees Q (g x) (k x)) → ((x : X) (y : Y) → f ≡ Some x → g x ≡ Some y → Q y → P x) → Agrees Q (option_and_then g f) (w >>= k)
agrees_then P Q f (Ok x) g k h next link = let e = h.accepted x refl in agrees_form Q (option_and_then g f) (g x) (k x) (ap (option_and_then g) e) (next x e)
agrees_then P Q f (Err r) g k h next link = record {
  accepted = λ y e. cc;
  refused = λ y s e same. let rs : r ≡ s = cc in then_refused P Q f g r h link y s e rs;
}

pub map_as_then : {X Y : Type 0} (m : X → Y) (f : Option X) → option_map m f ≡ option_and_then (λ x. Some (m x)) f
map_as_then m None = refl
map_as_then m (Some x) = refl

pub agrees_map : {X Y : Type 0} (P : X → Type 0) (Q : Y → Type 0) (f : Option X) (w : Walked X) (m : X → Y)
    → Agrees P f w → ((x : X) → f ≡ Some x → Q (m x) → P x) → Agrees Q (option_map m f) (w >>= (λ x. Ok (m x)))
agrees_map P Q f w m h link =
    agrees_form Q _ _ _ (map_as_then m f)
    (agrees_then P Q f w (λ x. Some (m x)) (λ x. Ok (m x)) h (λ x e. agrees_ok Q (m x)) (λ x y e same q. link x e (subst Q (sym (same_Some (m x) y same)) q)))

-- ---- what is there, and tests

pub agrees_found : {X Y : Type 0} (Q : Y → Type 0) (r : QueryRefusal) (o : Option X) (g : X → Option Y) (k : X → Walked Y)
    → ((x : X) → o ≡ Some x → Agrees Q (g x) (k x)) → Agrees Q (option_and_then g o) (or_refuse r o >>= k)
agrees_found Q r None g k next = agrees_none Q r
agrees_found Q r (Some x) g k next = next x refl

pub agrees_or_refuse : {X : Type 0} (P : X → Type 0) (r : QueryRefusal) (o : Option X) → Agrees P o (or_refuse r o)
agrees_or_refuse P r None = agrees_none P r
agrees_or_refuse P r (Some x) = agrees_ok P x

pub agrees_where : {X : Type 0} (P : X → Type 0) (b : Bool) (r : QueryRefusal) (f : Option X) (w : Walked X)
    → (b ≡ true → Agrees P f w) → Agrees P (where_true b f) (refuse_if (not b) r >>= (λ _. w))
agrees_where P true r f w h = h refl
agrees_where P false r f w h = agrees_none P r

pub agrees_unless : {X : Type 0} (P : X → Type 0) (b : Bool) (r : QueryRefusal) (f : Option X) (w : Walked X)
    → (b ≡ false → Agrees P f w) → Agrees P (where_true (not b) f) (refuse_if b r >>= (λ _. w))
agrees_unless P true r f w h = agrees_none P r
agrees_unless P false r f w h = h refl

-- a limit, which P keeps
pub agrees_within : {X : Type 0} (P : X → Type 0) (b : Bool) (r : QueryRefusal) (f : Option X) (w : Walked X)
    → IsLimit r → ((x : X) → f ≡ Some x → P x → b ≡ false) → (b ≡ false → Agrees P f w) → Agrees P f (refuse_if b r >>= (λ _. w))
agrees_within P true r f w limit kept h = agrees_limit P f r limit (λ x e p. let no = kept x e p in cc)
agrees_within P false r f w limit kept h = h refl

-- ---- two parts

pub map_some : {X Y : Type 0} (m : X → Y) (o : Option X) (y : Y) → option_map m o ≡ Some y → (x : X) × (o ≡ Some x) × (m x ≡ y)
map_some m None y e = absurd (none-some y e)
map_some m (Some x) y e = (x, refl, same_Some (m x) y e)

pub agrees_two : {X Y Z : Type 0} (P : X → Type 0) (R : Y → Type 0) (Q : Z → Type 0) (make : X → Y → Z) (f : Option X) (w : Walked X) (g : X → Option Y) (k : X → Walked Y)
    → Agrees P f w → ((x : X) → f ≡ Some x → Agrees R (g x) (k x)) → ((x : X) (y : Y) → Q (make x y) → P x × R y)
    → Agrees Q (option_and_then (λ x. option_map (λ y. make x y) (g x)) f) (w >>= (λ x. k x >>= (λ y. Ok (make x y))))
agrees_two P R Q make f w g k h next link =
    agrees_then P Q f w (λ x. option_map (λ y. make x y) (g x)) (λ x. k x >>= (λ y. Ok (make x y))) h
    (λ x e. agrees_map R Q (g x) (k x) (make x) (next x e) (λ y s q. (link x y q).1))
    (λ x z e s q. let m = map_some (make x) (g x) z s in (link x m.0 (subst Q (sym m.2) q)).0)
