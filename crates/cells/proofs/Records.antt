-- Records of two lists of numbers, and of numbers in another order.
-- Used by the proofs of `merge`, `record_of_both_is_merged`, `record_of_parts_is_merged`, `record_of_by_weighings` and `record_of_is_free_of_order`.
use Rattle.std.proofs.Common.{◌≡◌, ℕ, flat_map, append_assoc, ◌+◌, ◌*◌, ◌^◌, eqb, List, [], ◌∷◌, ◌++◌, length, ℤ, pos, ◌+ℤ◌, refl, sym, ap, ◌∙◌, arith, ◌==◌, if◌then◌else◌, fold, unwrap_or, append-nil, length-append, IsPermutation}
use Rattle.std.specs.Int.{int_min, int_max}
use Rattle.std.proofs.lemmas.Int.{ints}
use Rattle.std.proofs.lemmas.Bool.{cond_both, eqb-true, eqb-false}
use Rattle.lists.specs.Numbers.{sum_of, IsWithin, HaveSameItems}
use Rattle.lists.proofs.Folds.{fold-append_cons, int_min-int_min, int_max-int_max, sum_of-append}
use Rattle.lists.proofs.Orders.{sum_of-same, ends-same}
use Rattle.lists.proofs.SameItems.{length-same, same-permuted}
use Rattle.cells.specs.Records.{record_of, merged}
use Rattle.cells.specs.declared.record.Record.{Record}

-- ---- two records

-- a fact that holds of the other record if one record is of no numbers, and of both together if neither is, holds of the merged record
merged-cases : (P : Record → Type 0) (a b : Record) → (a.count ≡ 0 → P b) → (b.count ≡ 0 → P a)
    → ((a.count ≡ 0 → ⊥) → (b.count ≡ 0 → ⊥) → P (record { least = int_min a.least b.least; greatest = int_max a.greatest b.greatest; sum = a.sum +ℤ b.sum; count = a.count + b.count })) → P (merged a b)
merged-cases P a b none_left none_right both =
    cond_both (eqb a.count 0) b _ P (λ e. none_left (eqb-true a.count 0 e))
    (λ some. cond_both (eqb b.count 0) a _ P (λ e. none_right (eqb-true b.count 0 e)) (λ some'. both (eqb-false a.count 0 some) (eqb-false b.count 0 some')))

pub count-merged : (a b : Record) → (merged a b).count ≡ a.count + b.count
count-merged a b = merged-cases (λ r. r.count ≡ a.count + b.count) a b (λ e. omega arith) (λ e. omega arith) (λ _ _. refl)

pub within-merged : (a b : Record) → IsWithin a.sum (2 ^ 31 * a.count) → IsWithin b.sum (2 ^ 31 * b.count) → IsWithin (merged a b).sum (2 ^ 31 * (merged a b).count)
within-merged a b p q =
    merged-cases (λ r. IsWithin r.sum (2 ^ 31 * r.count)) a b (λ _. q) (λ _. p)
    (λ _ _. record { low = omega (arith, ints, p.low, q.low); high = omega (arith, ints, p.high, q.high) })

pub merged-both : (a b : Record) → (a.count ≡ 0 → ⊥) → (b.count ≡ 0 → ⊥)
    → merged a b ≡ record { least = int_min a.least b.least; greatest = int_max a.greatest b.greatest; sum = a.sum +ℤ b.sum; count = a.count + b.count }
merged-both a b some some' =
    merged-cases (λ r. r ≡ record { least = int_min a.least b.least; greatest = int_max a.greatest b.greatest; sum = a.sum +ℤ b.sum; count = a.count + b.count }) a b
    (λ e. absurd (some e)) (λ e. absurd (some' e)) (λ _ _. refl)

pub merged-none_left : (a b : Record) → a.count ≡ 0 → merged a b ≡ b
merged-none_left a b none = ap (λ n. if n == 0 then b else if b.count == 0 then a else record { least = int_min a.least b.least; greatest = int_max a.greatest b.greatest; sum = a.sum +ℤ b.sum; count = a.count + b.count }) none

pub merged-none_right : (a b : Record) → (a.count ≡ 0 → ⊥) → b.count ≡ 0 → merged a b ≡ a
merged-none_right a b some none = merged-cases (λ r. r ≡ a) a b (λ e. absurd (some e)) (λ _. refl) (λ _ some'. absurd (some' none))

-- ---- two lists

pub record_of-append : (xs ys : List ℤ) → record_of (xs ++ ys) ≡ merged (record_of xs) (record_of ys)
record_of-append [] ys = refl
record_of-append (x ∷ xs) [] = ap record_of (append-nil (x ∷ xs)) ∙ sym (merged-none_right (record_of (x ∷ xs)) (record_of []) (λ e. absurd (omega (arith, e))) refl)
record_of-append (x ∷ xs) (y ∷ ys) =
    let least = fold-append_cons int_min int_min-int_min x xs y ys in
    let greatest = fold-append_cons int_max int_max-int_max x xs y ys in
    let total = sum_of-append (x ∷ xs) (y ∷ ys) in
    let count = length-append (x ∷ xs) (y ∷ ys) in
    let whole : record_of ((x ∷ xs) ++ y ∷ ys) ≡ record { least = int_min (fold int_min x xs) (fold int_min y ys); greatest = int_max (fold int_max x xs) (fold int_max y ys); sum = sum_of (x ∷ xs) +ℤ sum_of (y ∷ ys); count = length (x ∷ xs) + length (y ∷ ys) } =
    (λ i. record { least = least i; greatest = greatest i; sum = total i; count = count i }) in
    whole ∙ sym (merged-both (record_of (x ∷ xs)) (record_of (y ∷ ys)) (λ e. absurd (omega (arith, e))) (λ e. absurd (omega (arith, e))))

-- ---- several lists

record_of-more : (part : ℕ → List ℤ) (xs : List ℤ) (parts : List ℕ) → record_of (xs ++ flat_map part parts) ≡ fold (λ all n. merged all (record_of (part n))) (record_of xs) parts
record_of-more part xs [] = ap record_of (append-nil xs)
record_of-more part xs (n ∷ ns) =
    ap record_of (sym (append_assoc xs (part n) (flat_map part ns)))
    ∙ record_of-more part (xs ++ part n) ns
    ∙ ap (λ r. fold (λ all m. merged all (record_of (part m))) r ns) (record_of-append xs (part n))

pub record_of-flat_map : (part : ℕ → List ℤ) (parts : List ℕ) → record_of (flat_map part parts) ≡ fold (λ all n. merged all (record_of (part n))) (record_of []) parts
record_of-flat_map part parts = record_of-more part [] parts

-- ---- another order

pub record_of-same : (xs ys : List ℤ) → HaveSameItems xs ys → record_of xs ≡ record_of ys
record_of-same xs ys same =
    let count = length-same xs ys same in
    let total = sum_of-same xs ys same in
    let ends = ends-same xs ys count same in
    (λ i. record { least = unwrap_or (ends.0 i) (pos 0); greatest = unwrap_or (ends.1 i) (pos 0); sum = total i; count = count i })

pub record_of-permutation : (xs ys : List ℤ) → IsPermutation xs ys → record_of xs ≡ record_of ys
record_of-permutation xs ys moved = record_of-same xs ys (same-permuted xs ys moved)

-- the merged record of two lists is the record of every list with the items of both
pub merged-same : (a b r : Record) (xs ys all : List ℤ) → r ≡ merged a b → a ≡ record_of xs → b ≡ record_of ys → HaveSameItems all (xs ++ ys) → r ≡ record_of all
merged-same a b r xs ys all is of_xs of_ys same = is ∙ (λ i. merged (of_xs i) (of_ys i)) ∙ sym (record_of-append xs ys) ∙ sym (record_of-same all (xs ++ ys) same)
