-- Plain enumeration, one point after the other: what was found, and what the test keeps of the rest.
-- Used by `list_plain`.
use Rattle.std.proofs.Common.{◌≡◌, Bool, true, false, cond, List, [], ◌∷◌, ◌++◌, All, suc, sym, ap, subst, ◌∙◌, append_assoc, append-nil, arith}
use Rattle.std.specs.List.{filter}
use Rattle.domains.specs.Points.{Point}

-- a point that passes is found
pub found-passes : (test : Point → Bool) (all found now rest : List Point) (p : Point) → now ≡ p ∷ rest → found ++ filter test now ≡ all → test p ≡ true → (found ++ p ∷ []) ++ filter test rest ≡ all
found-passes test all found now rest p is so_far passes =
    let kept = ap (λ b. cond b (p ∷ filter test rest) (filter test rest)) (sym passes) in
    append_assoc found (p ∷ []) (filter test rest) ∙ ap (λ points. found ++ points) kept ∙ ap (λ points. found ++ filter test points) (sym is) ∙ so_far

-- any other is not
pub found-fails : (test : Point → Bool) (all found now rest : List Point) (p : Point) → now ≡ p ∷ rest → found ++ filter test now ≡ all → test p ≡ false → found ++ filter test rest ≡ all
found-fails test all found now rest p is so_far fails =
    ap (λ points. found ++ points) (ap (λ b. cond b (p ∷ filter test rest) (filter test rest)) (sym fails)) ∙ ap (λ points. found ++ filter test points) (sym is) ∙ so_far

-- in the end all are found
pub found-none_left : (test : Point → Bool) (all found now : List Point) → now ≡ [] → found ++ filter test now ≡ all → all ≡ found
found-none_left test all found now none so_far = sym so_far ∙ ap (λ points. found ++ filter test points) none ∙ append-nil found

-- what holds of all holds of the rest
pub All-rest : (P : Point → Type 0) (now rest : List Point) (p : Point) → now ≡ p ∷ rest → All P now → All P rest
All-rest P now rest p is every = let all = subst (All P) is every in λ k d below. all (suc k) d (omega (arith, below))
