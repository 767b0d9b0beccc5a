-- Eight items of which the first n count, and the others are the same filler.
-- Used by the models of `Point` and `VarBox`.
use Rattle.std.specs.Prelude.{◌≡◌, ℕ, ◌-◌, ◌≤◌, List, ◌++◌, take, drop, length, replicate}
use Rattle.std.proofs.Common.{sym, ap, ◌∙◌, arith}
use Rattle.std.proofs.lemmas.List.{length-take-le, take-append-drop}

pub record IsPadded {X : Type 0} (filler : X) (n : ℕ) (items : List X) : Type 0 where
  pub within : n ≤ 8
  pub eight : length items ≡ 8
  pub rest : drop n items ≡ replicate (8 - n) filler

-- the first n items and fillers after them are the eight again
pub padded_lem : {X A : Type 0} (filler : X) (f : List X → ℕ → A) (n : ℕ) (items : List X) → IsPadded filler n items
    → f (take n items ++ replicate (8 - length (take n items)) filler) (length (take n items)) ≡ f items n
padded_lem filler f n items h =
    let long : length (take n items) ≡ n = length-take-le n items (omega (arith, h.within, h.eight)) in
    let same : take n items ++ replicate (8 - length (take n items)) filler ≡ items =
    ap (λ k. take n items ++ replicate (8 - k) filler) long ∙ ap (λ fillers. take n items ++ fillers) (sym h.rest) ∙ take-append-drop n items in
    (λ i. f (same i) (long i))
