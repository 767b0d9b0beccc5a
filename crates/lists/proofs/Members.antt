-- What is in a list, by recursion.
-- Used by the proofs of `grids`, `layouts`, `cell_fold`, `domains`, `query_model` and `chunk_store`.
use Rattle.std.proofs.Common.{◌≡◌, ℕ, zero, suc, ◌<◌, Bool, true, false, cond, ◌⊎◌, inl, inr, List, [], ◌∷◌, ◌++◌, length, get_or, map, refl, ap, subst, ◌∙◌, arith, filter, Contains}
use Rattle.std.proofs.lemmas.List.Elements.{Contains-append_right}

-- y is an element
abbrev pub IsIn : {X : Type 0} → X → List X → Type 0
IsIn y [] = ⊥
IsIn y (x ∷ xs) = (x ≡ y) ⊎ IsIn y xs

pub in_at : {X : Type 0} (xs : List X) (k : ℕ) (d : X) → k < length xs → IsIn (get_or xs k d) xs
in_at [] k d h = absurd (omega arith)
in_at (x ∷ xs) zero d h = inl refl
in_at (x ∷ xs) (suc k) d h = inr (in_at xs k d (omega arith))

pub in_from_contains : {X : Type 0} (xs : List X) (y : X) → Contains xs y → IsIn y xs
in_from_contains xs y h = subst (λ z. IsIn z xs) h.2 (in_at xs h.0 y h.1)

pub contains_from_in : {X : Type 0} (xs : List X) (y : X) → IsIn y xs → Contains xs y
contains_from_in [] y h = elim h [ ]
contains_from_in (x ∷ xs) y (inl e) = (0, omega arith, e)
contains_from_in (x ∷ xs) y (inr h) = Contains-append_right (x ∷ []) xs y (contains_from_in xs y h)

-- ---- in an append

pub in_append_left : {X : Type 0} (xs ys : List X) (y : X) → IsIn y xs → IsIn y (xs ++ ys)
in_append_left [] ys y h = elim h [ ]
in_append_left (x ∷ xs) ys y (inl e) = inl e
in_append_left (x ∷ xs) ys y (inr h) = inr (in_append_left xs ys y h)

pub in_append_right : {X : Type 0} (xs ys : List X) (y : X) → IsIn y ys → IsIn y (xs ++ ys)
in_append_right [] ys y h = h
in_append_right (x ∷ xs) ys y h = inr (in_append_right xs ys y h)

pub in_append_cases : {X : Type 0} (xs ys : List X) (y : X) → IsIn y (xs ++ ys) → IsIn y xs ⊎ IsIn y ys
in_append_cases [] ys y h = inr h
in_append_cases (x ∷ xs) ys y (inl e) = inl (inl e)
in_append_cases (x ∷ xs) ys y (inr h) = elim (in_append_cases xs ys y h) [ inl a ↦ inl (inr a) | inr b ↦ inr b ]

-- ---- in a map

pub in_map : {X Y : Type 0} (f : X → Y) (xs : List X) (x : X) → IsIn x xs → IsIn (f x) (map f xs)
in_map f [] x h = elim h [ ]
in_map f (z ∷ xs) x (inl e) = inl (ap f e)
in_map f (z ∷ xs) x (inr h) = inr (in_map f xs x h)

pub in_map_cases : {X Y : Type 0} (f : X → Y) (xs : List X) (y : Y) → IsIn y (map f xs) → (x : X) × IsIn x xs × (f x ≡ y)
in_map_cases f [] y h = elim h [ ]
in_map_cases f (x ∷ xs) y (inl e) = (x, inl refl, e)
in_map_cases f (x ∷ xs) y (inr h) = let r = in_map_cases f xs y h in (r.0, inr r.1, r.2)

-- ---- in a filter

kept_by : {X : Type 0} (p : X → Bool) (x y : X) (xs : List X) (b : Bool) → p x ≡ b → IsIn y (cond b (x ∷ xs) xs) → ((x ≡ y) × (p y ≡ true)) ⊎ IsIn y xs
kept_by p x y xs true e (inl q) = inl (q, subst (λ z. p z ≡ true) q e)
kept_by p x y xs true e (inr h) = inr h
kept_by p x y xs false e h = inr h

pub in_filter_cases : {X : Type 0} (p : X → Bool) (xs : List X) (y : X) → IsIn y (filter p xs) → IsIn y xs × (p y ≡ true)
in_filter_cases p [] y h = elim h [ ]
in_filter_cases p (x ∷ xs) y h =
    elim (kept_by p x y (filter p xs) (p x) refl h) [
      | inl a ↦ (inl a.0, a.1)
      | inr b ↦ (let r = in_filter_cases p xs y b in (inr r.0, r.1))
    ]

in_cond : {X : Type 0} (x y : X) (xs : List X) (b : Bool) → IsIn y xs → IsIn y (cond b (x ∷ xs) xs)
in_cond x y xs true h = inr h
in_cond x y xs false h = h

head_cond : {X : Type 0} (x y : X) (xs : List X) (b : Bool) → b ≡ true → x ≡ y → IsIn y (cond b (x ∷ xs) xs)
head_cond x y xs true e q = inl q
head_cond x y xs false e q = absurd (cc)

pub in_filter : {X : Type 0} (p : X → Bool) (xs : List X) (y : X) → IsIn y xs → p y ≡ true → IsIn y (filter p xs)
in_filter p [] y h t = elim h [ ]
in_filter p (x ∷ xs) y (inl e) t = head_cond x y (filter p xs) (p x) (ap p e ∙ t) e
in_filter p (x ∷ xs) y (inr h) t = in_cond x y (filter p xs) (p x) (in_filter p xs y h t)

pub filter_whole : {X : Type 0} (p : X → Bool) (xs : List X) → ((x : X) → IsIn x xs → p x ≡ true) → filter p xs ≡ xs
filter_whole p [] h = refl
filter_whole p (x ∷ xs) h = ap (λ b. cond b (x ∷ filter p xs) (filter p xs)) (h x (inl refl)) ∙ ap (λ l. x ∷ l) (filter_whole p xs (λ y i. h y (inr i)))

pub filter_none : {X : Type 0} (p : X → Bool) (xs : List X) → ((x : X) → IsIn x xs → p x ≡ false) → filter p xs ≡ []
filter_none p [] h = refl
filter_none p (x ∷ xs) h = ap (λ b. cond b (x ∷ filter p xs) (filter p xs)) (h x (inl refl)) ∙ filter_none p xs (λ y i. h y (inr i))
