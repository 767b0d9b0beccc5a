-- Sums of terms, no two of which have the same variable.
use Rattle.std.proofs.Common.{◌≡◌, ◌≢◌, ℕ, zero, suc, ◌+◌, ◌-◌, ◌≤◌, ◌<◌, ◌^◌, Bool, true, false, ◌||◌, ◌==◌, ◌⊎◌, ⊎_elim, inl, inr, List, [], ◌∷◌, ◌++◌, length, map, take, drop, replicate, get_or, ℤ, pos, Option, Some, None, IfSome, unwrap_or, All, AllPairs, refl, sym, ap, ◌∙◌, subst, length-append, arith}
use Rattle.std.specs.List.{list_any}
use Rattle.std.proofs.lemmas.Int.{ints}
use Rattle.std.proofs.lemmas.Bool.{false≢true, both_ways}
use Rattle.std.proofs.lemmas.Bool.Decides.{Decides-eqb}
use Rattle.std.proofs.lemmas.List.{take-append-drop, length-take-le, length-map, get_or-map}
use Rattle.std.proofs.lemmas.List.Elements.{All-push}
use Rattle.std.proofs.lemmas.List.Quantifiers.{all_pairs_push}
use Rattle.std.proofs.lemmas.Map.Made.{IsDistinct-from_AllPairs}
use Rattle.std.proofs.lemmas.Map.Steps.{length-le_from_distinct_below}
use Rattle.std.proofs.Math.Seq.{take-append_seam, drop-append_seam}
use Rattle.lists.specs.Numbers.{IsWithin}
use Rattle.query_model.specs.declared.parts.Term.{Term}
use Rattle.query_model.specs.Rules.{IsTerm, IsExpr, no_term}
use Rattle.query_text.specs.Sums.{SumParts, IsSum, empty_sum, with_constant, with_term, has_term, expr_of}

-- a sum as an array of terms is the same expression
pub expr_seen : (constant : Option ℤ) (value : ℤ) (count : ℕ) (terms : List Term) (sum : SumParts) → (record { constant = constant; terms = take count terms }) ≡ sum → count ≤ length terms
    → drop count terms ≡ replicate (8 - count) no_term → value ≡ unwrap_or constant (pos 0) → (record { constant = value; count = count; terms = terms }) ≡ expr_of sum
expr_seen constant value count terms sum seen short unused is =
    let counted : length (take count terms) ≡ count = length-take-le count terms short in
    let whole : terms ≡ take count terms ++ replicate (8 - length (take count terms)) no_term =
    sym (take-append-drop count terms) ∙ ap (λ rest. take count terms ++ rest) (unused ∙ ap (λ n. replicate (8 - n) no_term) (sym counted)) in
    let made : (record { constant = value; count = count; terms = terms }) ≡ expr_of (record { constant = constant; terms = take count terms }) =
    λ i. record { constant = is i; count = sym counted i; terms = whole i } in
    made ∙ ap expr_of seen

-- ---- no two terms have the same variable

either_true : (a b : Bool) → a || b ≡ true → (a ≡ true) ⊎ (b ≡ true)
either_true true b h = inl refl
either_true false b h = inr h

either_false : (a b : Bool) → a || b ≡ false → (a ≡ false) × (b ≡ false)
either_false true b h = absurd (false≢true (sym h))
either_false false b h = (refl, h)

below_some : (q n : ℕ) (ts : List Term) → All (IsTerm n) ts → list_any (λ v. q == v) (map (λ (t : Term). t.var) ts) ≡ true → q < n
below_some q n [] all h = absurd (false≢true h)
below_some q n (t ∷ ts) all h =
    let first : IsTerm n t = all 0 t (omega arith) in
    ⊎_elim (λ same. let e : q ≡ t.var = (Decides-eqb q t.var).0 same in omega (arith, e, first.var))
    (λ later. below_some q n ts (λ k d less. all (suc k) d (omega (arith, less))) later) (either_true (q == t.var) _ h)

pairs_of_vars : (ts : List Term) → AllPairs (λ (t u : Term). t.var ≢ u.var) ts → AllPairs (λ v w. v ≢ w) (map (λ (t : Term). t.var) ts)
pairs_of_vars ts once i j d before below =
    let var : Term → ℕ = λ t. t.var in
    let counted : length (map var ts) ≡ length ts = length-map ts var in
    let j_below : j < length ts = omega (arith, below, counted) in
    let i_below : i < length ts = omega (arith, before, j_below) in
    λ same. once i j no_term before j_below (sym (get_or-map var ts i no_term d i_below) ∙ same ∙ get_or-map var ts j no_term d j_below)

-- there are at most n terms of n variables
pub terms_few : (n : ℕ) (ts : List Term) → All (IsTerm n) ts → AllPairs (λ (t u : Term). t.var ≢ u.var) ts → length ts ≤ n
terms_few n ts all once =
    let vars = map (λ (t : Term). t.var) ts in
    let few : length vars ≤ n = length-le_from_distinct_below vars n (IsDistinct-from_AllPairs Decides-eqb vars (pairs_of_vars ts once)) (λ q h. below_some q n ts all h) in
    let counted : length vars ≡ length ts = length-map ts (λ (t : Term). t.var) in
    omega (arith, few, counted)

other_vars : (v : ℕ) (ts : List Term) → list_any (λ (t : Term). t.var == v) ts ≡ false → (k : ℕ) (d : Term) → k < length ts → (get_or ts k d).var ≢ v
other_vars v [] none k d below = absurd (omega (arith, below))
other_vars v (t ∷ ts) none zero d below =
    let first = (either_false (t.var == v) _ none).0 in λ same. absurd (both_ways (t.var == v) first ((Decides-eqb t.var v).1 same))
other_vars v (t ∷ ts) none (suc k) d below = other_vars v ts (either_false (t.var == v) _ none).1 k d (omega (arith, below))

-- one more term, of a variable that had none
pub sum_with_term : (n : ℕ) (t : Term) (sum : SumParts) → IsSum n sum → has_term t.var sum ≡ false → IsTerm n t → IsSum n (with_term t sum)
sum_with_term n t sum is none term = record {
  constant = is.constant;
  terms = All-push (IsTerm n) sum.terms t is.terms term;
  once = all_pairs_push (λ (t u : Term). t.var ≢ u.var) sum.terms t is.once (other_vars t.var sum.terms none);
}

-- there is room for it
pub room_for_term : (n : ℕ) (t : Term) (sum : SumParts) → n ≤ 8 → IsSum n sum → has_term t.var sum ≡ false → IsTerm n t → length sum.terms < 8
room_for_term n t sum small is none term =
    let more = sum_with_term n t sum is none term in
    let few : length (sum.terms ++ t ∷ []) ≤ n = terms_few n (sum.terms ++ t ∷ []) more.terms more.once in
    let counted : length (sum.terms ++ t ∷ []) ≡ length sum.terms + 1 = length-append sum.terms (t ∷ []) in
    omega (arith, few, counted, small)

-- the expression of a sum keeps the rules
pub expr_of_rules : (n : ℕ) (sum : SumParts) → n ≤ 8 → IsSum n sum → IsExpr n (expr_of sum)
expr_of_rules n sum small is =
    let few : length sum.terms ≤ n = terms_few n sum.terms is.terms is.once in
    let rest = replicate (8 - length sum.terms) no_term in
    let counted : take (length sum.terms) (sum.terms ++ rest) ≡ sum.terms = take-append_seam sum.terms rest in
    record {
      constant = constant_within sum.constant is.constant;
      count = omega (arith, few, small);
      terms = subst (All (IsTerm n)) (sym counted) is.terms;
      once = subst (AllPairs (λ (t u : Term). t.var ≢ u.var)) (sym counted) is.once;
      unused = drop-append_seam sum.terms rest;
    }
  where
    constant_within : (o : Option ℤ) → IfSome o (λ z. IsWithin z (2 ^ 31)) → IsWithin (unwrap_or o (pos 0)) (2 ^ 31)
    constant_within None h = record { low = omega (arith, ints); high = omega (arith, ints) }
    constant_within (Some z) h = h

-- the empty sum
pub empty_sum_rules : (n : ℕ) → IsSum n empty_sum
empty_sum_rules n = record { constant = tt; terms = λ k d below. absurd (omega (arith, below)); once = λ i j d before below. absurd (omega (arith, below)) }

-- with a constant
pub sum_with_constant : (n : ℕ) (z : ℤ) (sum : SumParts) → IsSum n sum → IsWithin z (2 ^ 31) → IsSum n (with_constant z sum)
sum_with_constant n z sum is within = record { constant = within; terms = is.terms; once = is.once }
