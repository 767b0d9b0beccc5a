-- The steps of the walk, and the items that the words before and after a step stand for.
-- Used by the proofs of `ReadArrays`, `ReadLayouts`, `StatedArrays` and `StatedLayouts`.
use Rattle.std.proofs.Common.{◌≡◌, ℕ, ◌+◌, Bool, true, false, cond, List, [], ◌∷◌, Option, Some, None, Ok, Err, bytes_eq, refl, ap, sym, subst, ◌∙◌}
use Rattle.std.specs.Prelude.{⊤}
use Rattle.std.specs.List.{AllZip}
use Rattle.std.proofs.lemmas.Slice.Eq.{bytes_eq-Decides}
use Rattle.array_text.specs.Contents.{Item, IsWrittenAs}
use Rattle.array_text.specs.Walk.{Walked, Rest, ◌>>=◌, taken, word_from, word, this_word}

-- these items are what the words stand for
abbrev pub Write : List Item → List (List ℕ) → Type 0
Write items ws = AllZip IsWrittenAs items ws

-- ---- one step and then the next

pub then_is : {X Y : Type 0} (m : Walked X) (f : X → Walked Y) (x : X) (y : Y) → m ≡ Ok x → f x ≡ Ok y → m >>= f ≡ Ok y
then_is m f x y e next = ap (λ w. w >>= f) e ∙ next

pub then_ok : {X Y : Type 0} (m : Walked X) (f : X → Walked Y) (y : Y) → m >>= f ≡ Ok y → (x : X) × (m ≡ Ok x) × (f x ≡ Ok y)
then_ok (Ok x) f y e = (x, refl, e)
then_ok (Err r) f y e = absurd (cc)

abbrev value_or : {X : Type 0} → X → Walked X → X
value_or x (Ok y) = y
value_or x (Err r) = x

pub same_value : {X : Type 0} (x y : X) → ◌≡◌ {A = Walked X} (Ok x) (Ok y) → x ≡ y
same_value x y e = ap (value_or x) e

-- ---- a step over words that stand for items

-- the step gives x, and leaves words that stand for the other items
pub record Passes {X : Type 0} (walked : Walked (X × Rest)) (x : X) (others : List Item) : Type 0 where
  pub after : Rest
  pub is : walked ≡ Ok (x, after)
  pub left : Write others after.words

pub passes_here : {X : Type 0} (x : X) (others : List Item) (rest : Rest) → Write others rest.words → Passes (Ok (x, rest)) x others
passes_here x others rest all = record { after = rest; is = refl; left = all }

pub passes_then : {X Y : Type 0} (m : Walked (X × Rest)) (f : X × Rest → Walked (Y × Rest)) (x : X) (y : Y) (others more : List Item)
    → Passes m x others → ((rest : Rest) → Write others rest.words → Passes (f (x, rest)) y more) → Passes (m >>= f) y more
passes_then m f x y others more p next =
    let q = next p.after p.left in
    record { after = q.after; is = then_is m f (x, p.after) (y, q.after) p.is q.is; left = q.left }

pub passes_word : {X : Type 0} (form : List ℕ → Option X) (x : X) (item : Item) (others : List Item) (rest : Rest)
    → ((w : List ℕ) → IsWrittenAs item w → form w ≡ Some x) → Write (item ∷ others) rest.words → Passes (word form rest) x others
passes_word {X = X} form x item others rest writes all = by rest.words all
  where
    by : (ws : List (List ℕ)) → Write (item ∷ others) ws → Passes (word_from form rest.next ws) x others
    by [] none = absurd none
    by (w ∷ ws) some = record { after = record { next = rest.next + 1; words = ws }; is = ap (taken rest.next ws) (writes w some.0); left = some.1 }

pub passes_same : {X : Type 0} (walked : Walked (X × Rest)) (x y : X) (others : List Item) → x ≡ y → Passes walked x others → Passes walked y others
passes_same walked x y others e p = subst (λ z. Passes walked z others) e p

-- ---- a step that gave something

taken_ok : {X : Type 0} (n : ℕ) (ws : List (List ℕ)) (o : Option X) (x : X) (after : Rest) → taken n ws o ≡ Ok (x, after) → (o ≡ Some x) × (after.words ≡ ws)
taken_ok n ws None x after e = absurd (cc)
taken_ok n ws (Some y) x after e =
    let same = same_value (y, record { next = n + 1; words = ws }) (x, after) e in
    (ap (λ p. Some p.0) same, ap (λ p. p.1.words) (sym same))

pub word_ok : {X : Type 0} (form : List ℕ → Option X) (x : X) (rest after : Rest) → word form rest ≡ Ok (x, after)
    → (w : List ℕ) × (form w ≡ Some x) × (rest.words ≡ w ∷ after.words)
word_ok {X = X} form x rest after e = by rest.words e
  where
    by : (ws : List (List ℕ)) → word_from form rest.next ws ≡ Ok (x, after) → (w : List ℕ) × (form w ≡ Some x) × (ws ≡ w ∷ after.words)
    by [] none = absurd (cc)
    by (w ∷ ws) some = let found = taken_ok rest.next ws (form w) x after some in (w, found.0, ap (λ l. w ∷ l) (sym found.1))

pub came_word : {X : Type 0} (form : List ℕ → Option X) (x : X) (item : Item) (others : List Item) (rest after : Rest)
    → ((w : List ℕ) → form w ≡ Some x → IsWrittenAs item w) → word form rest ≡ Ok (x, after) → Write others after.words → Write (item ∷ others) rest.words
came_word form x item others rest after writes e all =
    let found = word_ok form x rest after e in subst (Write (item ∷ others)) (sym found.2) (writes found.0 found.1, all)

-- ---- a keyword

pub this_word-is : (name w : List ℕ) → w ≡ name → this_word name w ≡ Some tt
this_word-is name w e = ap (λ b. cond b (Some tt) None) ((bytes_eq-Decides w name).1 e)

if_some : {X : Type 0} (b : Bool) (x y : X) → cond b (Some x) None ≡ Some y → b ≡ true
if_some true x y e = refl
if_some false x y e = absurd (cc)

pub this_word-some : (name w : List ℕ) (x : ⊤) → this_word name w ≡ Some x → w ≡ name
this_word-some name w x e = (bytes_eq-Decides w name).0 (if_some (bytes_eq w name) tt x e)
