-- Filters of lists that are made of others, and functions that agree on a list.
-- Used by the proofs of `grids`, `cells`, `layouts`, `cell_fold`, `chunk_store` and `query_model`.
use Rattle.std.proofs.Common.{◌≡◌, ℕ, ◌≤◌, suc, Bool, true, false, cond, ◌&&◌, inl, inr, List, [], ◌∷◌, ◌++◌, length, map, refl, sym, ap, ◌∙◌, arith, filter, filter_map, Option, Some, None}
use Rattle.std.specs.List.{flat_map, cons_option}
use Rattle.std.proofs.lemmas.List.{map-append}
use Rattle.std.proofs.lemmas.List.Elements.{filter-append, filter_map-append}
use Rattle.lists.proofs.Members.{IsIn}

pub filter-map : {X Y : Type 0} (p : Y → Bool) (f : X → Y) (xs : List X) → filter p (map f xs) ≡ map f (filter (λ x. p (f x)) xs)
filter-map p f [] = refl
filter-map p f (x ∷ xs) = ap (λ l. cond (p (f x)) (f x ∷ l) l) (filter-map p f xs) ∙ by_test (p (f x))
  where
    by_test : (b : Bool) → cond b (f x ∷ map f (filter (λ x. p (f x)) xs)) (map f (filter (λ x. p (f x)) xs)) ≡ map f (cond b (x ∷ filter (λ x. p (f x)) xs) (filter (λ x. p (f x)) xs))
    by_test true = refl
    by_test false = refl

pub filter-flat_map : {X Y : Type 0} (p : Y → Bool) (f : X → List Y) (xs : List X) → filter p (flat_map f xs) ≡ flat_map (λ x. filter p (f x)) xs
filter-flat_map p f [] = refl
filter-flat_map p f (x ∷ xs) = filter-append p (f x) (flat_map f xs) ∙ ap (λ l. filter p (f x) ++ l) (filter-flat_map p f xs)

pub filter_map-flat_map : {X Y Z : Type 0} (h : Y → Option Z) (f : X → List Y) (xs : List X) → filter_map h (flat_map f xs) ≡ flat_map (λ x. filter_map h (f x)) xs
filter_map-flat_map h f [] = refl
filter_map-flat_map h f (x ∷ xs) = filter_map-append h (f x) (flat_map f xs) ∙ ap (λ l. filter_map h (f x) ++ l) (filter_map-flat_map h f xs)

pub filter_map-map : {X Y Z : Type 0} (h : Y → Option Z) (f : X → Y) (xs : List X) → filter_map h (map f xs) ≡ filter_map (λ x. h (f x)) xs
filter_map-map h f [] = refl
filter_map-map h f (x ∷ xs) = ap (cons_option (h (f x))) (filter_map-map h f xs)

pub map-flat_map : {X Y Z : Type 0} (h : Y → Z) (f : X → List Y) (xs : List X) → map h (flat_map f xs) ≡ flat_map (λ x. map h (f x)) xs
map-flat_map h f [] = refl
map-flat_map h f (x ∷ xs) = map-append h (f x) (flat_map f xs) ∙ ap (λ l. map h (f x) ++ l) (map-flat_map h f xs)

-- both tests at once
pub filter-and : {X : Type 0} (p q : X → Bool) (xs : List X) → filter p (filter q xs) ≡ filter (λ x. q x && p x) xs
filter-and p q [] = refl
filter-and {X = X} p q (x ∷ xs) = by_tests (p x) (q x) refl (filter-and p q xs)
  where
    by_tests : (a b : Bool) → p x ≡ a → filter p (filter q xs) ≡ filter (λ x. q x && p x) xs
        → filter p (cond b (x ∷ filter q xs) (filter q xs)) ≡ cond (b && a) (x ∷ filter (λ x. q x && p x) xs) (filter (λ x. q x && p x) xs)
    by_tests true true e rest = (λ i. cond (e i) (x ∷ filter p (filter q xs)) (filter p (filter q xs))) ∙ ap (λ l. x ∷ l) rest
    by_tests false true e rest = (λ i. cond (e i) (x ∷ filter p (filter q xs)) (filter p (filter q xs))) ∙ rest
    by_tests true false e rest = rest
    by_tests false false e rest = rest

-- two tests, either first
pub filter-filter : {X : Type 0} (p q : X → Bool) (xs : List X) → filter p (filter q xs) ≡ filter q (filter p xs)
filter-filter p q [] = refl
filter-filter {X = X} p q (x ∷ xs) = by_tests (p x) (q x) refl refl (filter-filter p q xs)
  where
    by_tests : (a b : Bool) → p x ≡ a → q x ≡ b → filter p (filter q xs) ≡ filter q (filter p xs)
        → filter p (cond b (x ∷ filter q xs) (filter q xs)) ≡ filter q (cond a (x ∷ filter p xs) (filter p xs))
    by_tests true true e f rest =
        (λ i. cond (e i) (x ∷ filter p (filter q xs)) (filter p (filter q xs))) ∙ ap (λ l. x ∷ l) rest ∙ sym (λ i. cond (f i) (x ∷ filter q (filter p xs)) (filter q (filter p xs)))
    by_tests true false e f rest = rest ∙ sym (λ i. cond (f i) (x ∷ filter q (filter p xs)) (filter q (filter p xs)))
    by_tests false true e f rest = (λ i. cond (e i) (x ∷ filter p (filter q xs)) (filter p (filter q xs))) ∙ rest
    by_tests false false e f rest = rest

-- ---- two functions that agree on a list

pub filter-agree : {X : Type 0} (p q : X → Bool) (xs : List X) → ((x : X) → IsIn x xs → p x ≡ q x) → filter p xs ≡ filter q xs
filter-agree p q [] h = refl
filter-agree p q (x ∷ xs) h = (λ i. cond (h x (inl refl) i) (x ∷ filter-agree p q xs (λ y m. h y (inr m)) i) (filter-agree p q xs (λ y m. h y (inr m)) i))

pub filter_map-agree : {X Y : Type 0} (f g : X → Option Y) (xs : List X) → ((x : X) → IsIn x xs → f x ≡ g x) → filter_map f xs ≡ filter_map g xs
filter_map-agree f g [] h = refl
filter_map-agree f g (x ∷ xs) h = (λ i. cons_option (h x (inl refl) i) (filter_map-agree f g xs (λ y m. h y (inr m)) i))

pub flat_map-agree : {X Y : Type 0} (f g : X → List Y) (xs : List X) → ((x : X) → IsIn x xs → f x ≡ g x) → flat_map f xs ≡ flat_map g xs
flat_map-agree f g [] h = refl
flat_map-agree f g (x ∷ xs) h = (λ i. h x (inl refl) i ++ flat_map-agree f g xs (λ y m. h y (inr m)) i)

pub map-agree : {X Y : Type 0} (f g : X → Y) (xs : List X) → ((x : X) → IsIn x xs → f x ≡ g x) → map f xs ≡ map g xs
map-agree f g [] h = refl
map-agree f g (x ∷ xs) h = (λ i. h x (inl refl) i ∷ map-agree f g xs (λ y m. h y (inr m)) i)

-- ---- tests as parts

-- items that fail give nothing
pub flat_map-cond : {X Y : Type 0} (q : X → Bool) (f : X → List Y) (xs : List X) → flat_map (λ x. cond (q x) (f x) []) xs ≡ flat_map f (filter q xs)
flat_map-cond q f [] = refl
flat_map-cond q f (x ∷ xs) = ap (λ l. cond (q x) (f x) [] ++ l) (flat_map-cond q f xs) ∙ by_test (q x)
  where
    by_test : (b : Bool) → cond b (f x) [] ++ flat_map f (filter q xs) ≡ flat_map f (cond b (x ∷ filter q xs) (filter q xs))
    by_test true = refl
    by_test false = refl

-- ---- how many are left

pub length-cons_option-le : {Y : Type 0} (o : Option Y) (ys : List Y) (n : ℕ) → length ys ≤ n → length (cons_option o ys) ≤ suc n
length-cons_option-le None ys n h = omega arith
length-cons_option-le (Some y) ys n h = omega arith

pub length-filter_map-le : {X Y : Type 0} (h : X → Option Y) (xs : List X) → length (filter_map h xs) ≤ length xs
length-filter_map-le h [] = omega arith
length-filter_map-le h (x ∷ xs) = length-cons_option-le (h x) (filter_map h xs) (length xs) (length-filter_map-le h xs)

pub length-cond-le : {X : Type 0} (b : Bool) (k : X) (n : ℕ) (ks : List X) → length ks ≤ n → length (cond b (k ∷ ks) ks) ≤ suc n
length-cond-le true k n ks h = omega arith
length-cond-le false k n ks h = omega arith

pub length-filter-le : {X : Type 0} (p : X → Bool) (ks : List X) → length (filter p ks) ≤ length ks
length-filter-le p [] = omega arith
length-filter-le p (k ∷ ks) = length-cond-le (p k) k (length ks) (filter p ks) (length-filter-le p ks)
