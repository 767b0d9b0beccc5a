-- The number of points, as a loop multiplies it.
-- `point_count` uses it.
use Rattle.std.proofs.Common.{◌≡◌, ℕ, zero, suc, ◌+◌, ◌*◌, ◌<◌, ◌≤◌, min, ⊎_elim, List, [], ◌∷◌, ◌++◌, length, map, take, get_or, sym, ap, ◌∙◌, arith}
use Rattle.std.proofs.lemmas.List.{map-append, take_more}
use Rattle.std.proofs.Math.Nat.{min-eq_left, min-eq_right, le-mul_of_pos_right, mul-le-mul_right}
use Rattle.std.proofs.lemmas.Bool.{cases_lt}
use Rattle.lists.specs.Numbers.{product}
use Rattle.domains.specs.Values.{size_of}
use Rattle.query_model.specs.Answer.{domain_of}
use Rattle.query_model.specs.declared.parts.Variable.{Variable}
use Rattle.query_text.specs.Walk.{point_count}

product-snoc : (ns : List ℕ) (n : ℕ) → product (ns ++ n ∷ []) ≡ product ns * n
product-snoc [] n = grind arith
product-snoc (m ∷ ns) n = ap (λ k. m * k) (product-snoc ns n) ∙ grind arith

-- cut off at m, before and after one more factor
min_times : (a s m : ℕ) → min (min a m * s) m ≡ min (a * s) m
min_times a s m = ⊎_elim large (λ small. ap (λ k. min (k * s) m) (min-eq_left small)) (cases_lt m a)
  where
    large : m < a → min (min a m * s) m ≡ min (a * s) m
    large more = ap (λ k. min (k * s) m) (min-eq_right (omega arith)) ∙ both s
      where
        both : (n : ℕ) → min (m * n) m ≡ min (a * n) m
        both zero = omega arith
        both (suc n) =
            let up : m ≤ m * suc n = le-mul_of_pos_right m (omega arith) in
            let higher : m * suc n ≤ a * suc n = mul-le-mul_right (suc n) (omega arith) in
            omega (arith, up, higher)

-- one more variable
pub point_count_more : (vs : List Variable) (i : ℕ) (d : Variable) (so_far size more m : ℕ) → i < length vs → size ≡ size_of (domain_of (get_or vs i d)) → more ≡ min (so_far * size) m
    → so_far ≡ min (point_count (take i vs)) m → more ≡ min (point_count (take (i + 1) vs)) m
point_count_more vs i d so_far size more m below sized times so =
    let v = get_or vs i d in
    let size_at : Variable → ℕ = λ w. size_of (domain_of w) in
    let whole : point_count (take (i + 1) vs) ≡ point_count (take i vs) * size_at v =
    ap point_count (take_more vs i d below) ∙ ap product (map-append size_at (take i vs) (v ∷ [])) ∙ product-snoc (map size_at (take i vs)) (size_at v) in
    times ∙ (λ j. min (so j * sized j) m) ∙ min_times (point_count (take i vs)) (size_at v) m ∙ ap (λ k. min k m) (sym whole)
