-- The parts of a query: which items are read of them, and in which order.
use Rattle.std.proofs.Common.{◌≡◌, ℕ, suc, ◌≤◌, false, not, nat_lt, ◌==◌, List, [], ◌∷◌, length, refl, sym, ap, subst, ◌∙◌, arith}
use Rattle.std.proofs.lemmas.Bool.Decides.{nat_tests}
use Rattle.std.proofs.lemmas.Option.{same_Some}
use Rattle.std.specs.Prelude.{Option, None, Some, Ok, is_none, option_and_then, option_map, if◌then◌else◌, codes}
use Rattle.std.specs.Option.{option_map_or}
use Rattle.serde_json.specs.Data.{Data}
use Rattle.serde_json.specs.Find.{get}
use Rattle.query_text.specs.declared.location.Location.{Location}
use Rattle.query_text.specs.declared.refusal.QueryRefusal.{QueryRefusal}
use Rattle.query_text.specs.Form.{where_true, every, items_at, part_at, variables_form, variables_at}
use Rattle.query_text.specs.Json.{items_in}
use Rattle.query_text.specs.Locations as location
use Rattle.query_text.specs.declared.location.Part.{Part}
use Rattle.query_text.specs.Walk.{◌>>=◌, refuse_if, walk_items, walk_part, walk_variables_part}
use Rattle.query_text.proofs.Agrees.{Agrees, agrees_ok, agrees_form, agrees_found, agrees_unless, agrees_within, map_some}
use Rattle.query_text.proofs.ListForms.{then_none, then_some, then-where, then_itself}

-- no more items than these
abbrev pub IsFew : ℕ → List Data → Type 0
IsFew most ds = length ds ≤ most

pub not_less : (m n : ℕ) → n ≤ m → nat_lt m n ≡ false
not_less m n h = grind (arith, nat_tests)

agrees_few : (most : ℕ) (at : Location) (ds : List Data) → Agrees (IsFew most) (Some ds) (refuse_if (nat_lt most (length ds)) (QueryRefusal.TooMany at) >>= (λ _. Ok ds))
agrees_few most at ds =
    agrees_within (IsFew most) (nat_lt most (length ds)) (QueryRefusal.TooMany at) (Some ds) (Ok ds) tt
    (λ es e few. not_less most (length ds) (subst (IsFew most) (sym (same_Some ds es e)) few)) (λ few. agrees_ok (IsFew most) ds)

-- ---- a part that may be absent

pub agrees_part : (most : ℕ) (at : Location) (key : List ℕ) (d : Data) → Agrees (IsFew most) (part_at key d) (walk_part most at (get key d))
unfolding walk_part
agrees_part most at key d = by (get key d)
  where
    by : (o : Option Data) → Agrees (IsFew most) (if is_none o then Some [] else option_and_then items_in o) (option_map_or (walk_items most at) o (Ok []))
    by None = agrees_ok (IsFew most) []
    by (Some x) =
        agrees_form (IsFew most) _ _ _ (sym (then_itself (items_in x))) (agrees_found (IsFew most) (QueryRefusal.Shape at) (items_in x) (λ ds. Some ds) _ (λ ds e. agrees_few most at ds))

-- ---- the variables

-- their items, at least one
abbrev pub some_items : Data → Option (List Data)
some_items d = option_and_then (λ ds. where_true (not (length ds == 0)) (Some ds)) (items_at (codes "variables") d)

pub agrees_some_items : (d : Data) → Agrees (IsFew 8) (some_items d) (walk_variables_part (get (codes "variables") d))
unfolding walk_variables_part
agrees_some_items d =
    agrees_found (IsFew 8) (QueryRefusal.Shape (location.part Part.Variables)) (items_at (codes "variables") d) _ _
    (λ ds e. agrees_unless (IsFew 8) (length ds == 0) (QueryRefusal.Shape (location.part Part.Variables)) _ _ (λ some. agrees_few 8 (location.part Part.Variables) ds))

pub variables_at-items : (d : Data) → variables_at d ≡ option_and_then variables_form (some_items d)
variables_at-items d = by (items_at (codes "variables") d)
  where
    by : (o : Option (List Data))
        → option_and_then (λ ds. where_true (not (length ds == 0)) (variables_form ds)) o ≡ option_and_then variables_form (option_and_then (λ ds. where_true (not (length ds == 0)) (Some ds)) o)
    by None = refl
    by (Some ds) = sym (then-where variables_form (not (length ds == 0)) (Some ds))

-- ---- first the items of all parts

pub items_first : {A B C X Y Z W : Type 0} (F : A → Option X) (G : X → B → Option Y) (H : X → Y → C → Option Z) (make : X → Y → Z → W) (v : Option A) (r : Option B) (c : Option C)
    → option_and_then (λ x. option_and_then (λ y. option_map (λ z. make x y z) (option_and_then (H x y) c)) (option_and_then (G x) r)) (option_and_then F v)
    ≡ option_and_then (λ a. option_and_then (λ b. option_and_then (λ e. option_and_then (λ x. option_and_then (λ y. option_map (λ z. make x y z) (H x y e)) (G x b)) (F a)) c) r) v
items_first F G H make None r c = refl
items_first F G H make (Some a) None c = then_none _ (F a) (λ x. refl)
items_first F G H make (Some a) (Some b) None = then_none _ (F a) (λ x. then_none _ (G x b) (λ y. refl))
items_first F G H make (Some a) (Some b) (Some e) = refl

-- ---- how many there are

pub every_length : {X Y : Type 0} (form : X → Option Y) (xs : List X) (ys : List Y) → every form xs ≡ Some ys → length ys ≡ length xs
every_length form [] ys e = ap length (sym (same_Some [] ys e))
every_length form (x ∷ xs) ys e =
    let p = then_some (λ y. option_map (λ rest. y ∷ rest) (every form xs)) (form x) ys e in
    let m = map_some (λ rest. p.0 ∷ rest) (every form xs) ys p.2 in
    ap length (sym m.2) ∙ ap suc (every_length form xs m.0 m.1)
