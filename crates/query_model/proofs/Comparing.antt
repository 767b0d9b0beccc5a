-- Comparisons of averages, of regions that are not proper, and of regions without present cells.
-- Used by the laws on these.
use Rattle.std.proofs.Common.{◌≡◌, ℕ, zero, suc, ◌+◌, ◌*◌, ◌≤◌, Bool, true, false, ◌&&◌, List, [], ◌∷◌, ℤ, pos, negsuc, neg_ℤ, ◌*ℤ◌, ◌≤ℤ◌, ◌<ℤ◌, int_le, int_lt, refl, sym, ap, ◌∙◌, arith}
use Rattle.std.proofs.lemmas.Int.{ints, by_lt_z}
use Rattle.std.proofs.Math.Nat.{mul-le-mul_left}
use Rattle.std.proofs.Math.IntN.{*ℤ_comm, *ℤ-negsuc}
use borrow.Author.Differences.{up, down}
use Rattle.cells.specs.Array.{Array, is_proper, present_cells}
use Rattle.lists.specs.Numbers.{sum_of, count_of}
use Rattle.cells.specs.declared.side.Side.{Side}
use Rattle.query_model.specs.declared.parts.Agg.{Agg}
use Rattle.query_model.specs.declared.parts.Agg.TheVariants.{Min, Max, Avg}
use Rattle.query_model.specs.declared.parts.Compare.{Compare}
use Rattle.query_model.specs.declared.parts.Compare.TheVariants.{Le, Lt, Ge, Gt, Eq}
use Rattle.query_model.specs.declared.parts.Fraction.{Fraction}
use Rattle.query_model.specs.Constraint.{compares, mean_compares, aggregate_compares, aggregate_holds, scaled}

-- ---- both sides k times as large

scale_le : (k : ℕ) (x y : ℤ) → x ≤ℤ y → (pos k *ℤ x) ≤ℤ (pos k *ℤ y)
scale_le k x y h =
    let apart : up x + down y ≤ up y + down x = omega (arith, ints) in
    let more : k * (up x + down y) ≤ k * (up y + down x) = mul-le-mul_left k apart in omega (arith, ints)

scale_lt : (k : ℕ) (x y : ℤ) → 1 ≤ k → x <ℤ y → (pos k *ℤ x) <ℤ (pos k *ℤ y)
scale_lt k x y some h =
    let apart : (up x + down y) + 1 ≤ up y + down x = omega (arith, ints) in
    let more : k * ((up x + down y) + 1) ≤ k * (up y + down x) = mul-le-mul_left k apart in omega (arith, ints)

-- ---- a product, k times as large

mul-equal : (n a b : ℕ) → a ≡ b → n * a ≡ n * b
mul-equal n a b e = ap (λ k. n * k) e

scale-scale : (k n : ℕ) (x : ℤ) → pos k *ℤ (pos n *ℤ x) ≡ pos n *ℤ (pos k *ℤ x)
scale-scale k n x =
    let up_n : up (pos n *ℤ x) ≡ n * up x = omega (arith, ints) in
    let down_n : down (pos n *ℤ x) ≡ n * down x = omega (arith, ints) in
    let up_k : up (pos k *ℤ x) ≡ k * up x = omega (arith, ints) in
    let down_k : down (pos k *ℤ x) ≡ k * down x = omega (arith, ints) in
    let a = mul-equal k _ _ up_n in let b = mul-equal k _ _ down_n in let c = mul-equal n _ _ up_k in let d = mul-equal n _ _ down_k in
    omega (arith, ints)

scale-neg_ℤ : (k : ℕ) (x : ℤ) → neg_ℤ (pos k *ℤ x) ≡ pos k *ℤ neg_ℤ x
scale-neg_ℤ k (pos zero) = omega (arith, ints)
scale-neg_ℤ k (pos (suc n)) = sym (*ℤ-negsuc (pos k) n)
scale-neg_ℤ k (negsuc n) = ap neg_ℤ (*ℤ-negsuc (pos k) n) ∙ neg_ℤ-neg_ℤ (pos k *ℤ pos (suc n))
  where
    neg_ℤ-neg_ℤ : (x : ℤ) → neg_ℤ (neg_ℤ x) ≡ x
    neg_ℤ-neg_ℤ x = omega (arith, ints)

scale-pos : (k : ℕ) (x : ℤ) (n : ℕ) → (pos k *ℤ x) *ℤ pos n ≡ pos k *ℤ (x *ℤ pos n)
scale-pos k x n = *ℤ_comm (pos k *ℤ x) (pos n) ∙ scale-scale n k x ∙ ap (λ z. pos k *ℤ z) (*ℤ_comm (pos n) x)

scale-*ℤ : (k : ℕ) (x y : ℤ) → (pos k *ℤ x) *ℤ y ≡ pos k *ℤ (x *ℤ y)
scale-*ℤ k x (pos n) = scale-pos k x n
scale-*ℤ k x (negsuc n) =
    *ℤ-negsuc (pos k *ℤ x) n ∙ ap neg_ℤ (scale-pos k x (suc n)) ∙ scale-neg_ℤ k (x *ℤ pos (suc n)) ∙ ap (λ z. pos k *ℤ z) (sym (*ℤ-negsuc x n))

-- ---- tests as facts, and back

le-int_le : (x y : ℤ) → x ≤ℤ y → int_le x y ≡ true
le-int_le x y h = grind (arith, ints)

lt-int_le : (x y : ℤ) → y <ℤ x → int_le x y ≡ false
lt-int_le x y h = grind (arith, ints)

lt-int_lt : (x y : ℤ) → x <ℤ y → int_lt x y ≡ true
lt-int_lt x y h = grind (arith, ints)

le-int_lt : (x y : ℤ) → y ≤ℤ x → int_lt x y ≡ false
le-int_lt x y h = grind (arith, ints)

int_le-scale : (k : ℕ) (x y : ℤ) → 1 ≤ k → int_le (pos k *ℤ x) (pos k *ℤ y) ≡ int_le x y
int_le-scale k x y some =
    by_lt_z y x
    (λ less. lt-int_le _ _ (scale_lt k y x some less) ∙ sym (lt-int_le x y less))
    (λ not_less. le-int_le _ _ (scale_le k x y not_less) ∙ sym (le-int_le x y not_less))

int_lt-scale : (k : ℕ) (x y : ℤ) → 1 ≤ k → int_lt (pos k *ℤ x) (pos k *ℤ y) ≡ int_lt x y
int_lt-scale k x y some =
    by_lt_z x y
    (λ less. lt-int_lt _ _ (scale_lt k x y some less) ∙ sym (lt-int_lt x y less))
    (λ not_less. le-int_lt _ _ (scale_le k y x not_less) ∙ sym (le-int_lt x y not_less))

compares-scale : (k : ℕ) (c : Compare) (x y : ℤ) → 1 ≤ k → compares c (pos k *ℤ x) (pos k *ℤ y) ≡ compares c x y
compares-scale k Le x y some = int_le-scale k x y some
compares-scale k Lt x y some = int_lt-scale k x y some
compares-scale k Ge x y some = int_le-scale k y x some
compares-scale k Gt x y some = int_lt-scale k y x some
compares-scale k Eq x y some = (λ i. int_le-scale k x y some i && int_le-scale k y x some i)

mean_compares-scaled : (c : Compare) (numbers : List ℤ) (to : Fraction) (k : ℕ) → 1 ≤ k → mean_compares c numbers (scaled k to) ≡ mean_compares c numbers to
mean_compares-scaled c [] to k some = refl
mean_compares-scaled c (x ∷ xs) to k some =
    (λ i. compares c (scale-*ℤ k to.q (sum_of (x ∷ xs)) i) (scale-*ℤ k to.p (count_of (x ∷ xs)) i))
    ∙ compares-scale k c (to.q *ℤ sum_of (x ∷ xs)) (to.p *ℤ count_of (x ∷ xs)) some

pub average-scaled : (a : Array) (sides : List Side) (c : Compare) (to : Fraction) (k : ℕ) → 1 ≤ k → aggregate_holds a sides Avg c (scaled k to) ≡ aggregate_holds a sides Avg c to
average-scaled a sides c to k some = ap (λ b. is_proper a.extents sides && b) (mean_compares-scaled c (present_cells a sides) to k some)

-- ---- regions with no present cells

pub improper_fails : (a : Array) (sides : List Side) (agg : Agg) (c : Compare) (to : Fraction) → is_proper a.extents sides ≡ false → aggregate_holds a sides agg c to ≡ false
improper_fails a sides agg c to improper = ap (λ b. b && aggregate_compares agg c (present_cells a sides) to) improper

and-false : (b : Bool) → b && false ≡ false
and-false true = refl
and-false false = refl

fails_by : (a : Array) (sides : List Side) (agg : Agg) (c : Compare) (to : Fraction) → aggregate_compares agg c [] to ≡ false → present_cells a sides ≡ [] → aggregate_holds a sides agg c to ≡ false
fails_by a sides agg c to fails none =
    ap (λ numbers. is_proper a.extents sides && aggregate_compares agg c numbers to) none ∙ ap (λ b. is_proper a.extents sides && b) fails ∙ and-false (is_proper a.extents sides)

pub undefined_fails : (a : Array) (sides : List Side) (c : Compare) (to : Fraction) → present_cells a sides ≡ []
    → (aggregate_holds a sides Min c to ≡ false) × (aggregate_holds a sides Max c to ≡ false) × (aggregate_holds a sides Avg c to ≡ false)
undefined_fails a sides c to none = (fails_by a sides Min c to refl none, fails_by a sides Max c to refl none, fails_by a sides Avg c to refl none)
