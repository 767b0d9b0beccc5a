-- The first variable whose domain has the most values, on which a box is split.
-- Used by `widest` and `cut`, and by HalvesOrder, Halves and Measures.
use Rattle.std.proofs.Common.{◌≡◌, ℕ, suc, ◌+◌, ◌<◌, ◌≤◌, cond, inl, inr, List, [], ◌∷◌, length, get_or, drop, set, refl, ap, sym, subst, ◌∙◌, arith, nat_lt, ◌<ℤ◌}
use Rattle.std.proofs.lemmas.Bool.{lt-ltb, le-ltb, cases_lt, eq-eqb, ne_eqb}
use Rattle.std.proofs.lemmas.Int.{ints}
use Rattle.std.proofs.Math.Nat.{mul-le-mul}
use Rattle.domains.specs.declared.dom.Dom.{Dom}
use Rattle.domains.specs.Values.{HasValue, size_of}
use Rattle.domains.specs.VarBoxes.{HaveValues, points_in, box_with, size_product}
use Rattle.domains.specs.Splits.{most_values, first_with, widest, domain_at, no_domain, lower_half, upper_half, first_half, second_half}
use Rattle.domains.proofs.Values.{size_is}
use Rattle.domains.proofs.PointCounts.{length-points_of}
use Rattle.domains.proofs.NonemptyDomains.{values_at, true-has_value}

-- ---- as the loop finds it: b is the best so far, with m values; the others are counted from i

abbrev pub widest_from : ℕ → ℕ → ℕ → List Dom → ℕ
widest_from b m i [] = b
widest_from b m i (d ∷ ds) = cond (nat_lt m (size_of d)) (widest_from i (size_of d) (i + 1) ds) (widest_from b m (i + 1) ds)

widest_from-no_more : (b m i : ℕ) (ds : List Dom) → most_values ds ≤ m → widest_from b m i ds ≡ b
widest_from-no_more b m i [] h = refl
widest_from-no_more b m i (d ∷ ds) h =
    ap (λ t. cond t (widest_from i (size_of d) (i + 1) ds) (widest_from b m (i + 1) ds)) (le-ltb m (size_of d) (omega arith))
    ∙ widest_from-no_more b m (i + 1) ds (omega arith)

-- past a domain that has fewer values than a later one
first_with-later : (d : Dom) (ds : List Dom) → size_of d < most_values ds → first_with (most_values (d ∷ ds)) (d ∷ ds) ≡ suc (first_with (most_values ds) ds)
first_with-later d ds h =
    let most : most_values (d ∷ ds) ≡ most_values ds = omega arith in
    ap (λ n. first_with n (d ∷ ds)) most
    ∙ ap (λ t. cond t 0 (suc (first_with (most_values ds) ds))) (ne_eqb (size_of d) (most_values ds) (λ e. omega arith))

-- at a domain that has as many values as each later one
first_with-head : (d : Dom) (ds : List Dom) → most_values ds ≤ size_of d → first_with (most_values (d ∷ ds)) (d ∷ ds) ≡ 0
first_with-head d ds h =
    let most : most_values (d ∷ ds) ≡ size_of d = omega arith in
    ap (λ n. first_with n (d ∷ ds)) most
    ∙ ap (λ t. cond t 0 (suc (first_with (size_of d) ds))) (eq-eqb (size_of d) (size_of d) refl)

widest_from-more : (b m i : ℕ) (ds : List Dom) → m < most_values ds → widest_from b m i ds ≡ i + first_with (most_values ds) ds
widest_from-more b m i [] h = absurd (omega arith)
widest_from-more b m i (d ∷ ds) h =
    elim (cases_lt m (size_of d)) [
      | inl wider ↦ ap (λ t. cond t (widest_from i (size_of d) (i + 1) ds) (widest_from b m (i + 1) ds)) (lt-ltb m (size_of d) wider)
          ∙ elim (cases_lt (size_of d) (most_values ds)) [
            | inl later ↦ widest_from-more i (size_of d) (i + 1) ds later ∙ omega (arith, first_with-later d ds later)
            | inr none ↦ widest_from-no_more i (size_of d) (i + 1) ds none ∙ omega (arith, first_with-head d ds none)
          ]
      | inr not_wider ↦ (
          let later : m < most_values ds = omega arith in
          ap (λ t. cond t (widest_from i (size_of d) (i + 1) ds) (widest_from b m (i + 1) ds)) (le-ltb m (size_of d) not_wider)
          ∙ widest_from-more b m (i + 1) ds later ∙ omega (arith, first_with-later d ds (omega arith)))
    ]

pub widest_from-first : (d : Dom) (ds : List Dom) → widest_from 0 (size_of d) 1 ds ≡ widest (d ∷ ds)
widest_from-first d ds =
    elim (cases_lt (size_of d) (most_values ds)) [
      | inl later ↦ widest_from-more 0 (size_of d) 1 ds later ∙ omega (arith, first_with-later d ds later)
      | inr none ↦ widest_from-no_more 0 (size_of d) 1 ds none ∙ sym (first_with-head d ds none)
    ]

pub widest_start : (box : List Dom) (most : ℕ) (e : Dom) → 0 < length box → most ≡ size_of (get_or box 0 e) → widest_from 0 most 1 (drop 1 box) ≡ widest box
widest_start [] most e some is_most = absurd (omega arith)
widest_start (d ∷ ds) most e some is_most = ap (λ m. widest_from 0 m 1 ds) is_most ∙ widest_from-first d ds

-- ---- what it is

pub widest_within : (d : Dom) (ds : List Dom) → widest (d ∷ ds) < length (d ∷ ds)
widest_within d [] = omega (arith, first_with-head d [] (omega arith))
widest_within d (e ∷ ds) =
    elim (cases_lt (size_of d) (most_values (e ∷ ds))) [
      | inl later ↦ omega (arith, first_with-later d (e ∷ ds) later, widest_within e ds)
      | inr none ↦ omega (arith, first_with-head d (e ∷ ds) none)
    ]

pub widest_size : (d : Dom) (ds : List Dom) → size_of (domain_at (d ∷ ds) (widest (d ∷ ds))) ≡ most_values (d ∷ ds)
widest_size d [] = ap (λ v. size_of (domain_at (d ∷ []) v)) (first_with-head d [] (omega arith)) ∙ omega arith
widest_size d (e ∷ ds) =
    elim (cases_lt (size_of d) (most_values (e ∷ ds))) [
      | inl later ↦ ap (λ v. size_of (domain_at (d ∷ e ∷ ds) v)) (first_with-later d (e ∷ ds) later) ∙ widest_size e ds ∙ omega arith
      | inr none ↦ ap (λ v. size_of (domain_at (d ∷ e ∷ ds) v)) (first_with-head d (e ∷ ds) none) ∙ omega arith
    ]

-- if no domain has two values, there is at most one point
few_points : (ds : List Dom) → most_values ds ≤ 1 → size_product ds ≤ 1
few_points [] h = omega arith
few_points (d ∷ ds) h =
    let a : size_of d ≤ 1 = omega arith in let b = few_points ds (omega arith) in mul-le-mul a b

-- if there are two points, it has two values
pub widest_several : (box : List Dom) → HaveValues box → 1 < length (points_in box)
    → (widest box < length box) × ((domain_at box (widest box)).lo <ℤ (domain_at box (widest box)).hi)
widest_several [] h more = absurd (omega arith)
widest_several (d ∷ ds) h more =
    let within = widest_within d ds in
    let at = domain_at (d ∷ ds) (widest (d ∷ ds)) in
    let some = values_at (d ∷ ds) (widest (d ∷ ds)) no_domain h within in
    let size = size_is at (omega (arith, ints, some)) in
    let same = widest_size d ds in
    let many : 1 < most_values (d ∷ ds) =
    elim (cases_lt 1 (most_values (d ∷ ds))) [
      | inl big ↦ big
      | inr small ↦ absurd (omega (arith, few_points (d ∷ ds) small, length-points_of (d ∷ ds)))
    ] in
    (within, omega (arith, ints, size, same))

-- ---- the halves as the code makes them

pub several_at : (box doms : List Dom) (v : ℕ) → HaveValues box → 1 < length (points_in box) → v ≡ widest box → doms ≡ box → (get_or doms v no_domain).lo <ℤ (get_or doms v no_domain).hi
several_at box doms v h more is_v same =
    subst (λ n. (get_or doms n no_domain).lo <ℤ (get_or doms n no_domain).hi) (sym is_v)
    (subst (λ ds. (get_or ds (widest box) no_domain).lo <ℤ (get_or ds (widest box) no_domain).hi) (sym same) (widest_several box h more).1)

-- a half put in place of the domain d of the variable v
module _ (box : List Dom) (v : ℕ) (d half : Dom) (new : List Dom) (several : d.lo <ℤ d.hi) (is_v : v ≡ widest box) (is_d : d ≡ get_or box v no_domain) (is_new : new ≡ box_with box v half) where
  is_put : HasValue half → new ≡ set box v half
  is_put some = is_new ∙ ap (λ t. cond t (set box v half) []) (true-has_value half some)

  is_domain : d ≡ domain_at box (widest box)
  is_domain = is_d ∙ ap (λ n. get_or box n no_domain) is_v

  pub is_first_half : half ≡ lower_half d → new ≡ first_half box
  is_first_half e =
      is_put (subst HasValue (sym e) (omega (arith, ints))) ∙ (λ i. set box (is_v i) (e i)) ∙ ap (λ f. set box (widest box) (lower_half f)) is_domain

  pub is_second_half : half ≡ upper_half d → new ≡ second_half box
  is_second_half e =
      is_put (subst HasValue (sym e) (omega (arith, ints))) ∙ (λ i. set box (is_v i) (e i)) ∙ ap (λ f. set box (widest box) (upper_half f)) is_domain
