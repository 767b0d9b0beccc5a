-- Lists by the weights of their items: `sum_by weight`.
-- Used by the proofs of `domains` and `chunk_store`.
use Rattle.std.proofs.Common.{◌≡◌, ℕ, ◌+◌, Bool, true, false, cond, ◌&&◌, ◌||◌, List, [], ◌∷◌, length, map, refl, sym, ap, ◌∙◌, arith, flat_map, filter_map, Option, Some, None}
use Rattle.std.specs.List.{sum_by, cons_option}
use Rattle.std.proofs.lemmas.List.Sums.{sum_by-append, sum_by-cons}

pub sum_by-map : {X Y : Type 0} (w : Y → ℕ) (f : X → Y) (xs : List X) → sum_by w (map f xs) ≡ sum_by (λ x. w (f x)) xs
sum_by-map w f [] = refl
sum_by-map w f (x ∷ xs) = omega (arith, sum_by-cons w (f x) (map f xs), sum_by-cons (λ x. w (f x)) x xs, sum_by-map w f xs)

pub sum_by-flat_map : {X Y : Type 0} (w : Y → ℕ) (f : X → List Y) (xs : List X) → sum_by w (flat_map f xs) ≡ sum_by (λ x. sum_by w (f x)) xs
sum_by-flat_map w f [] = refl
sum_by-flat_map w f (x ∷ xs) =
    sum_by-append w (f x) (flat_map f xs) ∙ omega (arith, sum_by-cons (λ x. sum_by w (f x)) x xs, sum_by-flat_map w f xs)

pub sum_by-same : {X : Type 0} (f g : X → ℕ) → ((x : X) → f x ≡ g x) → (xs : List X) → sum_by f xs ≡ sum_by g xs
sum_by-same f g h [] = refl
sum_by-same f g h (x ∷ xs) = omega (arith, sum_by-cons f x xs, sum_by-cons g x xs, h x, sum_by-same f g h xs)

pub sum_by-add : {X : Type 0} (f g : X → ℕ) (xs : List X) → sum_by (λ x. f x + g x) xs ≡ sum_by f xs + sum_by g xs
sum_by-add f g [] = refl
sum_by-add f g (x ∷ xs) = omega (arith, sum_by-cons (λ x. f x + g x) x xs, sum_by-cons f x xs, sum_by-cons g x xs, sum_by-add f g xs)

pub length-sum_by : {X : Type 0} (xs : List X) → sum_by (λ _. 1) xs ≡ length xs
length-sum_by [] = refl
length-sum_by (x ∷ xs) = let h = length-sum_by xs in sum_by-cons (λ _. 1) x xs ∙ omega (arith, h)

-- ---- a list in two parts

-- an item that passes one of two tests at most
pub one_more : {X : Type 0} (weight : X → ℕ) (k : X) (both first second : List X) (b c : Bool) → (b && c) ≡ false → sum_by weight both ≡ sum_by weight first + sum_by weight second
    → sum_by weight (cond (b || c) (k ∷ both) both) ≡ sum_by weight (cond b (k ∷ first) first) + sum_by weight (cond c (k ∷ second) second)
one_more weight k both first second true true apart e = cc
one_more weight k both first second true false apart e = let all = sum_by-cons weight k both in let one = sum_by-cons weight k first in omega (arith, all, one, e)
one_more weight k both first second false true apart e = let all = sum_by-cons weight k both in let one = sum_by-cons weight k second in omega (arith, all, one, e)
one_more weight k both first second false false apart e = e

pub weight-cons_option : {Y : Type 0} (weight : Y → ℕ) (o : Option Y) (xs : List Y) → sum_by weight (cons_option o xs) ≡ sum_by weight (cons_option o []) + sum_by weight xs
weight-cons_option weight None xs = omega arith
weight-cons_option weight (Some x) xs = let all = sum_by-cons weight x xs in let one = sum_by-cons weight x [] in omega (arith, all, one)

-- the weight of the number at a place
abbrev pub weight_at : {X Y : Type 0} → (Y → ℕ) → (X → Option Y) → X → ℕ
weight_at weight h k = sum_by weight (cons_option (h k) [])

pub weight-filter_map : {X Y : Type 0} (weight : Y → ℕ) (h : X → Option Y) (ks : List X) → sum_by weight (filter_map h ks) ≡ sum_by (weight_at weight h) ks
weight-filter_map weight h [] = refl
weight-filter_map weight h (k ∷ ks) =
    weight-cons_option weight (h k) (filter_map h ks) ∙ ap (λ n. weight_at weight h k + n) (weight-filter_map weight h ks) ∙ sym (sum_by-cons (weight_at weight h) k ks)
