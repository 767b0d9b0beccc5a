-- Lists in which each element is related to all that follow it.
-- Used by the proofs of `domains`.
use Rattle.std.proofs.Common.{◌≡◌, zero, suc, Bool, true, false, cond, inl, inr, List, [], ◌∷◌, ◌++◌, get_or, map, filter, refl, sym, subst, ◌∙◌, arith, AllPairs}
use Rattle.lists.proofs.Members.{IsIn, contains_from_in, in_at, in_append_cases, in_map_cases, in_filter_cases}

-- each element is related to all that follow it
abbrev pub Rises : {X : Type 0} → (X → X → Type 0) → List X → Type 0
Rises R [] = Unit {0}
Rises {X} R (x ∷ xs) = ((y : X) → IsIn y xs → R x y) × Rises R xs

pub rises_pairs : {X : Type 0} (R : X → X → Type 0) (xs : List X) → Rises R xs → AllPairs R xs
rises_pairs R [] r i j d below within = absurd (omega arith)
rises_pairs R (x ∷ xs) r zero zero d below within = absurd (omega arith)
rises_pairs R (x ∷ xs) r zero (suc j) d below within = r.0 (get_or xs j d) (in_at xs j d (omega arith))
rises_pairs R (x ∷ xs) r (suc i) zero d below within = absurd (omega arith)
rises_pairs R (x ∷ xs) r (suc i) (suc j) d below within = rises_pairs R xs r.1 i j d (omega arith) (omega arith)

pub pairs_rises : {X : Type 0} (R : X → X → Type 0) (xs : List X) → AllPairs R xs → Rises R xs
pairs_rises R [] h = tt
pairs_rises R (x ∷ xs) h = (
  (λ y i. let c = contains_from_in xs y i in subst (R x) c.2 (h 0 (suc c.0) y (omega arith) (omega (arith, c.1)))),
  pairs_rises R xs (λ i j d below within. h (suc i) (suc j) d (omega (arith, below)) (omega (arith, within))),
)

pub rises_append : {X : Type 0} (R : X → X → Type 0) (xs ys : List X) → Rises R xs → Rises R ys → ((x y : X) → IsIn x xs → IsIn y ys → R x y) → Rises R (xs ++ ys)
rises_append R [] ys r s f = s
rises_append R (x ∷ xs) ys r s f = (
  (λ y h. elim (in_append_cases xs ys y h) [ inl a ↦ r.0 y a | inr b ↦ f x y (inl refl) b ]),
  rises_append R xs ys r.1 s (λ z y a b. f z y (inr a) b),
)

pub rises_map : {X Y : Type 0} (R : X → X → Type 0) (S : Y → Y → Type 0) (f : X → Y) → ((x z : X) → R x z → S (f x) (f z)) → (xs : List X) → Rises R xs → Rises S (map f xs)
rises_map R S f h [] r = tt
rises_map R S f h (x ∷ xs) r =
    ((λ y i. let c = in_map_cases f xs y i in subst (S (f x)) c.2 (h x c.0 (r.0 c.0 c.1))), rises_map R S f h xs r.1)

pub rises_filter : {X : Type 0} (R : X → X → Type 0) (p : X → Bool) (xs : List X) → Rises R xs → Rises R (filter p xs)
rises_filter R p [] r = tt
rises_filter R p (x ∷ xs) r = by_test (p x) (rises_filter R p xs r.1)
  where
    by_test : (b : Bool) → Rises R (filter p xs) → Rises R (cond b (x ∷ filter p xs) (filter p xs))
    by_test true rest = ((λ y h. r.0 y (in_filter_cases p xs y h).0), rest)
    by_test false rest = rest

-- strictly rising lists that have the same items are equal
module _ {X : Type 0} (R : X → X → Type 0) (strict : (x : X) → R x x → ⊥) (through : (x y z : X) → R x y → R y z → R x z) where
  -- the first items of both are equal
  same_first : (x y : X) (xs ys : List X) → Rises R (x ∷ xs) → Rises R (y ∷ ys) → IsIn x (y ∷ ys) → IsIn y (x ∷ xs) → y ≡ x
  same_first x y xs ys r s (inl e) h = e
  same_first x y xs ys r s (inr g) (inl e) = sym e
  same_first x y xs ys r s (inr g) (inr h) = absurd (strict x (through x y x (r.0 y h) (s.0 x g)))

  -- an item after the first one is not the first one of the other
  in_rest : (x y z : X) (xs ys : List X) → Rises R (x ∷ xs) → y ≡ x → IsIn z xs → IsIn z (y ∷ ys) → IsIn z ys
  in_rest x y z xs ys r e h (inl f) = absurd (strict x (subst (R x) (sym f ∙ e) (r.0 z h)))
  in_rest x y z xs ys r e h (inr g) = g

  pub rises-equal : (xs ys : List X) → Rises R xs → Rises R ys → ((x : X) → IsIn x xs → IsIn x ys) → ((x : X) → IsIn x ys → IsIn x xs) → xs ≡ ys
  rises-equal [] [] r s there back = refl
  rises-equal [] (y ∷ ys) r s there back = elim (back y (inl refl)) [ ]
  rises-equal (x ∷ xs) [] r s there back = elim (there x (inl refl)) [ ]
  rises-equal (x ∷ xs) (y ∷ ys) r s there back =
      let e : y ≡ x = same_first x y xs ys r s (there x (inl refl)) (back y (inl refl)) in
      let rest : xs ≡ ys = rises-equal xs ys r.1 s.1
      (λ z h. in_rest x y z xs ys r e h (there z (inr h))) (λ z h. in_rest y x z ys xs s (sym e) h (back z (inr h))) in
      (λ i. sym e i ∷ rest i)
