-- The order of points, which compares their values padded with zeros.
-- Used by the law `points_are_ordered`.
use Rattle.std.proofs.Common.{◌≡◌, ◌↔◌, ℕ, ◌-◌, true, ◌&&◌, List, [], ◌∷◌, ◌++◌, length, take, replicate, refl, ap, sym, subst, ◌∙◌, arith, ℤ, pos, nat_eq}
use Rattle.std.specs.declared.cmp.Ordering.{Ordering}
use Rattle.std.specs.declared.cmp.Ordering.TheVariants.{Less, Equal, Greater}
use Rattle.std.specs.Ordering.{int_cmp, int_eq, nat_cmp, ordering_then}
use Rattle.std.specs.Cmp.Lexicographic.{slice_cmp}
use Rattle.std.proofs.lemmas.Bool.{and_parts, and_from, eqb-true, eq-eqb}
use Rattle.std.proofs.lemmas.List.{take_at}
use Rattle.std.proofs.lemmas.Int.{ints}
use lib.Pointwise.{pointwise}
use Rattle.domains.specs.Points.{with_zeros}
use Rattle.domains.proofs.PointsOfDomains.{int_cmp-itself}

ordering_then-Equal : (o : Ordering) → ordering_then o Equal ≡ o
ordering_then-Equal Less = refl
ordering_then-Equal Equal = refl
ordering_then-Equal Greater = refl

ordering_then-equal_parts : (o r : Ordering) → ordering_then o r ≡ Equal → (o ≡ Equal) × (r ≡ Equal)
ordering_then-equal_parts Less r h = absurd (cc)
ordering_then-equal_parts Equal r h = (refl, h)
ordering_then-equal_parts Greater r h = absurd (cc)

slice_cmp-itself : (xs : List ℤ) → slice_cmp int_cmp xs xs ≡ Equal
slice_cmp-itself [] = refl
slice_cmp-itself (x ∷ xs) = ap (λ o. ordering_then o (slice_cmp int_cmp xs xs)) (int_cmp-itself x) ∙ slice_cmp-itself xs

slice_cmp-append : (p q zs : List ℤ) → length p ≡ length q → slice_cmp int_cmp (p ++ zs) (q ++ zs) ≡ slice_cmp int_cmp p q
slice_cmp-append [] [] zs h = slice_cmp-itself zs
slice_cmp-append [] (y ∷ q) zs h = absurd (cc)
slice_cmp-append (x ∷ p) [] zs h = absurd (cc)
slice_cmp-append (x ∷ p) (y ∷ q) zs h = ap (ordering_then (int_cmp x y)) (slice_cmp-append p q zs (cc))

int_cmp-equal : (x y : ℤ) → int_cmp x y ≡ Equal → x ≡ y
int_cmp-equal x y h = grind (arith, ints)

nat_cmp-itself : (n : ℕ) → nat_cmp n n ≡ Equal
nat_cmp-itself n = grind arith

nat_cmp-equal : (m n : ℕ) → nat_cmp m n ≡ Equal → m ≡ n
nat_cmp-equal m n h = grind arith

slice_cmp-equal : (xs ys : List ℤ) → slice_cmp int_cmp xs ys ≡ Equal → xs ≡ ys
slice_cmp-equal [] [] h = refl
slice_cmp-equal [] (y ∷ ys) h = absurd (cc)
slice_cmp-equal (x ∷ xs) [] h = absurd (cc)
slice_cmp-equal (x ∷ xs) (y ∷ ys) h =
    let parts = ordering_then-equal_parts (int_cmp x y) (slice_cmp int_cmp xs ys) h in
    (λ i. int_cmp-equal x y parts.0 i ∷ slice_cmp-equal xs ys parts.1 i)

with_zeros-same : (p q : List ℤ) → with_zeros p ≡ with_zeros q → length p ≡ length q → p ≡ q
with_zeros-same p q h long =
    sym (take_at p (replicate (8 - length p) (pos 0)) (length q) long) ∙ ap (take (length q)) h ∙ take_at q (replicate (8 - length q) (pos 0)) (length q) refl

-- ---- the order

pub cmp-values : (p q : List ℤ) → length p ≡ length q → ordering_then (slice_cmp int_cmp (with_zeros p) (with_zeros q)) (nat_cmp (length p) (length q)) ≡ slice_cmp int_cmp p q
cmp-values p q h =
    let zeros = λ (n : ℕ). replicate (8 - n) (pos 0) in
    (λ i. ordering_then (slice_cmp int_cmp (p ++ zeros (h i)) (q ++ zeros (length q))) (nat_cmp (h i) (length q)))
    ∙ ap (ordering_then (slice_cmp int_cmp (p ++ zeros (length q)) (q ++ zeros (length q)))) (nat_cmp-itself (length q))
    ∙ ordering_then-Equal (slice_cmp int_cmp (p ++ zeros (length q)) (q ++ zeros (length q)))
    ∙ slice_cmp-append p q (zeros (length q)) h

pub cmp-ties : (p q : List ℤ) → (ordering_then (slice_cmp int_cmp (with_zeros p) (with_zeros q)) (nat_cmp (length p) (length q)) ≡ Equal) ↔ (p ≡ q)
cmp-ties p q = (
  (λ h. let parts = ordering_then-equal_parts (slice_cmp int_cmp (with_zeros p) (with_zeros q)) (nat_cmp (length p) (length q)) h in
      with_zeros-same p q (slice_cmp-equal (with_zeros p) (with_zeros q) parts.0) (nat_cmp-equal (length p) (length q) parts.1)),
  (λ e. cmp-values p q (ap length e) ∙ ap (slice_cmp int_cmp p) (sym e) ∙ slice_cmp-itself p),
)

-- ---- `==`

int_eq-itself : (x : ℤ) → int_eq x x ≡ true
int_eq-itself x = grind (arith, ints)

int_eq-same : (x y : ℤ) → int_eq x y ≡ true → x ≡ y
int_eq-same x y h = grind (arith, ints)

pointwise-itself : (xs : List ℤ) → pointwise int_eq xs xs ≡ true
pointwise-itself [] = refl
pointwise-itself (x ∷ xs) = and_from (int_eq x x) (pointwise int_eq xs xs) (int_eq-itself x) (pointwise-itself xs)

pointwise-same : (xs ys : List ℤ) → pointwise int_eq xs ys ≡ true → xs ≡ ys
pointwise-same [] [] h = refl
pointwise-same [] (y ∷ ys) h = absurd (cc)
pointwise-same (x ∷ xs) [] h = absurd (cc)
pointwise-same (x ∷ xs) (y ∷ ys) h =
    let parts = and_parts (int_eq x y) (pointwise int_eq xs ys) h in
    (λ i. int_eq-same x y parts.0 i ∷ pointwise-same xs ys parts.1 i)

pub eq-same : (p q : List ℤ) → (pointwise int_eq (with_zeros p) (with_zeros q) && nat_eq (length p) (length q) ≡ true) ↔ (p ≡ q)
eq-same p q = (
  (λ h. let parts = and_parts (pointwise int_eq (with_zeros p) (with_zeros q)) (nat_eq (length p) (length q)) h in
      with_zeros-same p q (pointwise-same (with_zeros p) (with_zeros q) parts.0) (eqb-true (length p) (length q) parts.1)),
  (λ e. subst (λ r. pointwise int_eq (with_zeros p) (with_zeros r) && nat_eq (length p) (length r) ≡ true) e
      (and_from (pointwise int_eq (with_zeros p) (with_zeros p)) (nat_eq (length p) (length p)) (pointwise-itself (with_zeros p)) (eq-eqb (length p) (length p) refl))),
)
