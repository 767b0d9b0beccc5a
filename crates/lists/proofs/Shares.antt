-- A list that is shared out by a number of each item: the items of each number, one number after the other.
-- Used by the proofs of `layouts` and `chunk_store`.
use Rattle.std.proofs.Common.{◌≡◌, ℕ, zero, suc, ◌+◌, ◌≤◌, ◌<◌, nat_lt, ◌==◌, Bool, true, false, cond, ◌&&◌, ◌||◌, inl, inr, List, [], ◌∷◌, ◌++◌, filter, flat_map, refl, sym, ap, ap₂, ◌∙◌, arith, append-nil}
use Rattle.std.specs.List.{range_with_len, sum_by}
use Rattle.std.proofs.lemmas.Bool.{and_left, and_right, lt-ltb, le-ltb, ltb-true, ltb-false, eqb-true, eqb-false, ne_eqb, cases_Bool}
use Rattle.std.proofs.lemmas.Grind.{flat_map-append}
use Rattle.std.proofs.lemmas.List.Sums.{sum_by-append}
use Rattle.lists.specs.Numbers.{HaveSameItems}
use Rattle.lists.proofs.Members.{IsIn, filter_whole, filter_none}
use Rattle.lists.proofs.Ranges.{range_with_len-add}
use Rattle.lists.proofs.Weights.{one_more}

-- ---- one more number

later : (c m : ℕ) → m ≤ c → (c ≡ m → ⊥) → m + 1 ≤ c
later c m low apart = grind arith

below_more : (c m : ℕ) → nat_lt c (m + 1) ≡ (nat_lt c m || (c == m))
below_more c m =
    elim (cases_Bool (nat_lt c m)) [
      | inl less ↦ let small = ltb-true c m less in lt-ltb c (m + 1) (omega (arith, small)) ∙ sym (λ i. less i || (c == m))
      | inr other ↦ (
          elim (cases_Bool (c == m)) [
            | inl even ↦ let same = eqb-true c m even in lt-ltb c (m + 1) (omega (arith, same)) ∙ sym (λ i. other i || even i)
            | inr odd ↦ le-ltb c (m + 1) (later c m (ltb-false c m other) (eqb-false c m odd)) ∙ sym (λ i. other i || odd i)
          ]
          )
    ]

not_both : (c m : ℕ) → (nat_lt c m && (c == m)) ≡ false
not_both c m =
    elim (cases_Bool (nat_lt c m)) [
      | inl less ↦ let small = ltb-true c m less in and_right (nat_lt c m) (c == m) (ne_eqb c m (λ e. absurd (omega (arith, small, e))))
      | inr other ↦ and_left (nat_lt c m) (c == m) other
    ]

pub not_below : (c : ℕ) → nat_lt c 0 ≡ false
not_below c = le-ltb c 0 (omega arith)

-- the items with a number below m + 1 are those below m, and those with m
pub weight-below_more : {X : Type 0} (weight number : X → ℕ) (m : ℕ) (xs : List X)
    → sum_by weight (filter (λ x. nat_lt (number x) (m + 1)) xs) ≡ sum_by weight (filter (λ x. nat_lt (number x) m) xs) + sum_by weight (filter (λ x. number x == m) xs)
weight-below_more weight number m [] = refl
weight-below_more weight number m (x ∷ xs) =
    let both = filter (λ x. nat_lt (number x) (m + 1)) xs in
    ap (λ b. sum_by weight (cond b (x ∷ both) both)) (below_more (number x) m)
    ∙ one_more weight x both (filter (λ x. nat_lt (number x) m) xs) (filter (λ x. number x == m) xs) (nat_lt (number x) m) (number x == m) (not_both (number x) m) (weight-below_more weight number m xs)

-- ---- all of them

-- the items with a number below m, number by number
first_shared : {X : Type 0} (number : X → ℕ) (m : ℕ) (xs : List X)
    → HaveSameItems (filter (λ x. nat_lt (number x) m) xs) (flat_map (λ t. filter (λ x. number x == t) xs) (range_with_len 0 m))
first_shared number zero xs = λ weight. ap (sum_by weight) (filter_none (λ x. nat_lt (number x) 0) xs (λ x _. not_below (number x)))
first_shared {X = X} number (suc m) xs = λ weight.
    let group = λ (t : ℕ). filter (λ (x : X). number x == t) xs in
    let next : suc m ≡ m + 1 = omega arith in
    let last : 0 + m ≡ m = omega arith in
    ap (λ k. sum_by weight (filter (λ x. nat_lt (number x) k) xs)) next
    ∙ weight-below_more weight number m xs
    ∙ ap₂ ◌+◌ (first_shared number m xs weight) (ap (sum_by weight) (sym (append-nil (group m))))
    ∙ sym (sum_by-append weight (flat_map group (range_with_len 0 m)) (flat_map group (m ∷ [])))
    ∙ ap (sum_by weight) (sym (flat_map-append group (range_with_len 0 m) (m ∷ [])))
    ∙ ap (λ l. sum_by weight (flat_map group l)) (ap (λ j. range_with_len 0 m ++ j ∷ []) (sym last) ∙ sym (range_with_len-add 0 m 1))
    ∙ ap (λ k. sum_by weight (flat_map group (range_with_len 0 k))) (sym next)

-- if each item has a number below n, they are the items of each number, one number after the other
pub same-shared : {X : Type 0} (number : X → ℕ) (n : ℕ) (xs : List X) → ((x : X) → IsIn x xs → number x < n)
    → HaveSameItems xs (flat_map (λ t. filter (λ x. number x == t) xs) (range_with_len 0 n))
same-shared number n xs below = λ weight.
    ap (sum_by weight) (sym (filter_whole (λ x. nat_lt (number x) n) xs (λ x i. lt-ltb (number x) n (below x i))))
    ∙ first_shared number n xs weight

-- ---- parts that have no items

-- parts that are empty unless a test passes may be left out
pub flat_map-filter : {X Y : Type 0} (q : X → Bool) (f : X → List Y) (xs : List X) → ((x : X) → IsIn x xs → q x ≡ false → f x ≡ []) → flat_map f xs ≡ flat_map f (filter q xs)
flat_map-filter q f [] none = refl
flat_map-filter {X = X} q f (x ∷ xs) none = by_test (q x) refl (flat_map-filter q f xs (λ y i. none y (inr i)))
  where
    by_test : (b : Bool) → q x ≡ b → flat_map f xs ≡ flat_map f (filter q xs) → f x ++ flat_map f xs ≡ flat_map f (cond b (x ∷ filter q xs) (filter q xs))
    by_test true e rest = ap (λ l. f x ++ l) rest
    by_test false e rest = (λ i. none x (inl refl) e i ++ rest i)
