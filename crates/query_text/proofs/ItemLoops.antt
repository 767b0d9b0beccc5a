-- A loop over the items of an array takes the steps of `walk_fold`.
-- The loops that read variables, regions, constraints and sums use it.
use Rattle.std.proofs.Common.{◌≡◌, ℕ, suc, ◌+◌, ◌≤◌, ◌<◌, List, [], ◌∷◌, ◌++◌, length, map, drop, get_or, Ok, Err, sym, ap, ◌∙◌, arith}
use Rattle.std.proofs.Math.Seq.{drop-cons}
use Rattle.std.proofs.lemmas.List.{drop_all}
use Rattle.serde_json.specs.declared.value.Value.{Value}
use Rattle.serde_json.specs.Data.{Data}
use Rattle.serde_json.specs.View.{view}
use Rattle.query_text.specs.declared.refusal.QueryRefusal.{QueryRefusal}
use Rattle.query_text.specs.Walk.{Walked, ◌>>=◌, walk_fold, appending}

suc_is : (i : ℕ) → suc i ≡ i + 1
suc_is i = omega arith

one_step : {X : Type 0} (step : X → Data → Walked X) (items : List Value) (i : ℕ) (item : Value) (x : X) (given : Walked X) → i < length items → item ≡ get_or items i item → step x (view item) ≡ given
    → walk_fold step x (map view (drop i items)) ≡ given >>= (λ y. walk_fold step y (map view (drop (i + 1) items)))
one_step step items i item x given below is gives =
    ap (λ vs. walk_fold step x (map view vs)) (drop-cons items i item below ∙ (λ j. sym is j ∷ drop (suc_is i j) items))
    ∙ ap (λ w. w >>= (λ y. walk_fold step y (map view (drop (i + 1) items)))) gives

-- a step that reads something goes on with it
pub fold_more : {X : Type 0} (step : X → Data → Walked X) (items : List Value) (i : ℕ) (item : Value) (x y : X) (whole : Walked X) → i < length items → item ≡ get_or items i item → step x (view item) ≡ Ok y
    → walk_fold step x (map view (drop i items)) ≡ whole → walk_fold step y (map view (drop (i + 1) items)) ≡ whole
fold_more step items i item x y whole below is gives so_far = sym (one_step step items i item x (Ok y) below is gives) ∙ so_far

-- a step that refuses ends the walk
pub fold_stop : {X : Type 0} (step : X → Data → Walked X) (items : List Value) (i : ℕ) (item : Value) (x : X) (r : QueryRefusal) (whole : Walked X) → i < length items → item ≡ get_or items i item → step x (view item) ≡ Err r
    → walk_fold step x (map view (drop i items)) ≡ whole → whole ≡ Err r
fold_stop step items i item x r whole below is gives so_far = sym so_far ∙ one_step step items i item x (Err r) below is gives

-- after the last step, what was read is the whole
pub fold_end : {X : Type 0} (step : X → Data → Walked X) (items : List Value) (i : ℕ) (x : X) (whole : Walked X) → length items ≤ i
    → walk_fold step x (map view (drop i items)) ≡ whole → whole ≡ Ok x
fold_end step items i x whole past so_far = sym so_far ∙ ap (λ vs. walk_fold step x (map view vs)) (drop_all i items past)

-- a step that appends what it reads
pub appending_ok : {X : Type 0} (step : List X → Data → Walked X) (before : List X) (d : Data) (x : X) → step before d ≡ Ok x → appending step before d ≡ Ok (before ++ x ∷ [])
appending_ok step before d x gives = ap (λ w. w >>= (λ y. Ok (before ++ y ∷ []))) gives

pub appending_err : {X : Type 0} (step : List X → Data → Walked X) (before : List X) (d : Data) (r : QueryRefusal) → step before d ≡ Err r → appending step before d ≡ Err r
appending_err step before d r gives = ap (λ w. w >>= (λ y. Ok (before ++ y ∷ []))) gives
