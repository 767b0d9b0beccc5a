-- The same items up to order: an equivalence, what keeps it, and what follows from it.
-- Used by the proofs of `cells`, `layouts`, `domains` and `query_model`, and by Orders and Shares.
use Rattle.std.proofs.Common.{◌≡◌, ℕ, ◌+◌, ◌<◌, Bool, true, false, cond, inl, inr, List, [], ◌∷◌, ◌++◌, length, map, filter, filter_map, flat_map, Option, IsPermutation, refl, sym, ap, ap₂, subst, ◌∙◌, arith}
use Rattle.std.specs.Bool.{Decides}
use Rattle.std.specs.List.{sum_by}
use Rattle.std.proofs.lemmas.Bool.{cases_Bool}
use Rattle.std.proofs.lemmas.List.Sorted.{sum_by-IsPermutation}
use Rattle.std.proofs.lemmas.List.Sums.{sum_by-append, sum_by-cons}
use Rattle.lists.specs.Numbers.{HaveSameItems}
use Rattle.lists.proofs.Members.{IsIn}
use Rattle.lists.proofs.Weights.{sum_by-map, sum_by-flat_map, weight_at, weight-filter_map, length-sum_by}

-- ---- an equivalence

pub same-itself : {X : Type 0} (xs : List X) → HaveSameItems xs xs
same-itself xs = λ weight. refl

pub same-turned : {X : Type 0} (xs ys : List X) → HaveSameItems xs ys → HaveSameItems ys xs
same-turned xs ys h = λ weight. sym (h weight)

pub same-through : {X : Type 0} (xs ys zs : List X) → HaveSameItems xs ys → HaveSameItems ys zs → HaveSameItems xs zs
same-through xs ys zs h i = λ weight. h weight ∙ i weight

-- ---- what keeps it

pub same-append : {X : Type 0} (xs ys zs ws : List X) → HaveSameItems xs ys → HaveSameItems zs ws → HaveSameItems (xs ++ zs) (ys ++ ws)
same-append xs ys zs ws h i = λ weight. sum_by-append weight xs zs ∙ ap₂ ◌+◌ (h weight) (i weight) ∙ sym (sum_by-append weight ys ws)

-- two lists one after the other, either first
pub same-append_turned : {X : Type 0} (xs ys : List X) → HaveSameItems (xs ++ ys) (ys ++ xs)
same-append_turned xs ys = λ weight. omega (arith, sum_by-append weight xs ys, sum_by-append weight ys xs)

pub same-map : {X Y : Type 0} (f : X → Y) (xs ys : List X) → HaveSameItems xs ys → HaveSameItems (map f xs) (map f ys)
same-map f xs ys h = λ weight. sum_by-map weight f xs ∙ h (λ x. weight (f x)) ∙ sym (sum_by-map weight f ys)

pub same-flat_map : {X Y : Type 0} (f : X → List Y) (xs ys : List X) → HaveSameItems xs ys → HaveSameItems (flat_map f xs) (flat_map f ys)
same-flat_map f xs ys h = λ weight. sum_by-flat_map weight f xs ∙ h (λ x. sum_by weight (f x)) ∙ sym (sum_by-flat_map weight f ys)

pub same-filter_map : {X Y : Type 0} (f : X → Option Y) (xs ys : List X) → HaveSameItems xs ys → HaveSameItems (filter_map f xs) (filter_map f ys)
same-filter_map f xs ys h = λ weight. weight-filter_map weight f xs ∙ h (weight_at weight f) ∙ sym (weight-filter_map weight f ys)

weight-filter : {X : Type 0} (weight : X → ℕ) (p : X → Bool) (xs : List X) → sum_by weight (filter p xs) ≡ sum_by (λ x. cond (p x) (weight x) 0) xs
weight-filter weight p [] = refl
weight-filter {X = X} weight p (x ∷ xs) = by_test (p x) (weight-filter weight p xs) ∙ sym (sum_by-cons (λ y. cond (p y) (weight y) 0) x xs)
  where
    by_test : (b : Bool) → sum_by weight (filter p xs) ≡ sum_by (λ y. cond (p y) (weight y) 0) xs
        → sum_by weight (cond b (x ∷ filter p xs) (filter p xs)) ≡ cond b (weight x) 0 + sum_by (λ y. cond (p y) (weight y) 0) xs
    by_test true rest = sum_by-cons weight x (filter p xs) ∙ ap (λ n. weight x + n) rest
    by_test false rest = omega (arith, rest)

pub same-filter : {X : Type 0} (p : X → Bool) (xs ys : List X) → HaveSameItems xs ys → HaveSameItems (filter p xs) (filter p ys)
same-filter p xs ys h = λ weight. weight-filter weight p xs ∙ h (λ x. cond (p x) (weight x) 0) ∙ sym (weight-filter weight p ys)

-- what a sort gives
pub same-permuted : {X : Type 0} (xs ys : List X) → IsPermutation xs ys → HaveSameItems xs ys
same-permuted xs ys h = λ weight. sym (sum_by-IsPermutation weight xs ys h)

-- ---- how many there are

pub length-same : {X : Type 0} (xs ys : List X) → HaveSameItems xs ys → length xs ≡ length ys
length-same xs ys same = sym (length-sum_by xs) ∙ same (λ _. 1) ∙ length-sum_by ys

-- as many pass a test
pub length-filter-same : {X : Type 0} (p : X → Bool) (xs ys : List X) → HaveSameItems xs ys → length (filter p xs) ≡ length (filter p ys)
length-filter-same p xs ys same = length-same (filter p xs) (filter p ys) (same-filter p xs ys same)

-- ---- how often each item is there, by a test of which items are equal

module _ {X : Type 0} (equal : X → X → Bool) (right : (x y : X) → Decides (equal x y) (x ≡ y)) where
  abbrev is_item : X → X → ℕ
  is_item x y = cond (equal x y) 1 0

  counts_here : (x y : X) → y ≡ x → is_item x y ≡ 1
  counts_here x y e = ap (λ b. cond b 1 0) ((right x y).1 (sym e))

  counts_some : (x : X) (ys : List X) → IsIn x ys → 0 < sum_by (is_item x) ys
  counts_some x [] h = elim h [ ]
  counts_some x (y ∷ ys) (inl e) = let first = counts_here x y e in let all = sum_by-cons (is_item x) y ys in omega (arith, first, all)
  counts_some x (y ∷ ys) (inr h) = let rest = counts_some x ys h in let all = sum_by-cons (is_item x) y ys in omega (arith, rest, all)

  in_from_count : (x : X) (ys : List X) → 0 < sum_by (is_item x) ys → IsIn x ys
  in_from_count x [] h = absurd (omega arith)
  in_from_count x (y ∷ ys) h =
      elim (cases_Bool (equal x y)) [
        | inl e ↦ inl (sym ((right x y).0 e))
        | inr e ↦ (
            let none : is_item x y ≡ 0 = ap (λ b. cond b 1 0) e in
            let all = sum_by-cons (is_item x) y ys in inr (in_from_count x ys (omega (arith, none, all)))
            )
      ]

  -- the same items are in both
  pub in-same : (xs ys : List X) → HaveSameItems xs ys → (x : X) → IsIn x xs → IsIn x ys
  in-same xs ys same x h = in_from_count x ys (subst (λ n. 0 < n) (same (is_item x)) (counts_some x xs h))

  -- ---- the other way: lists with as many of each item have the same items

  -- an item that is in a list, and the items before and after it
  split_at : (x : X) (ys : List X) → IsIn x ys → (before : List X) × (after : List X) × (ys ≡ before ++ x ∷ after)
  split_at x [] h = elim h [ ]
  split_at x (y ∷ ys) (inl e) = ([], ys, ap (λ z. z ∷ ys) e)
  split_at x (y ∷ ys) (inr h) = let r = split_at x ys h in (y ∷ r.0, r.1, ap (λ l. y ∷ l) r.2)

  -- the weight of that item, and of the others
  weight-split : (weight : X → ℕ) (x : X) (before after : List X) → sum_by weight (before ++ x ∷ after) ≡ weight x + sum_by weight (before ++ after)
  weight-split weight x before after =
      omega (arith, sum_by-append weight before (x ∷ after), sum_by-cons weight x after, sum_by-append weight before after)

  same-counted : (xs ys : List X) → ((x : X) → sum_by (is_item x) xs ≡ sum_by (is_item x) ys) → HaveSameItems xs ys
  same-counted [] [] h = λ weight. refl
  same-counted [] (y ∷ ys) h =
      let some = counts_some y (y ∷ ys) (inl refl) in let none : 0 ≡ sum_by (is_item y) (y ∷ ys) = h y in absurd (omega (arith, some, none))
  same-counted (x ∷ xs) ys h =
      let there = split_at x ys (in_from_count x ys (subst (λ n. 0 < n) (h x) (counts_some x (x ∷ xs) (inl refl)))) in
      let before = there.0 in let after = there.1 in
      let rest = same-counted xs (before ++ after)
      (λ z. omega (arith, h z, sum_by-cons (is_item z) x xs, ap (sum_by (is_item z)) there.2, weight-split (is_item z) x before after)) in
      λ weight. omega (arith, rest weight, sum_by-cons weight x xs, ap (sum_by weight) there.2, weight-split weight x before after)

  count-filter : (x : X) (xs : List X) → length (filter (equal x) xs) ≡ sum_by (is_item x) xs
  count-filter x xs = sym (length-sum_by (filter (equal x) xs)) ∙ weight-filter (λ _. 1) (equal x) xs

  pub same-from_counts : (xs ys : List X) → ((x : X) → length (filter (equal x) xs) ≡ length (filter (equal x) ys)) → HaveSameItems xs ys
  same-from_counts xs ys h = same-counted xs ys (λ x. sym (count-filter x xs) ∙ h x ∙ count-filter x ys)
