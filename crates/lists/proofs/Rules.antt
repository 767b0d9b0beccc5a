-- Which rule of a list is the first that is broken, and what it means that none is.
-- Used by the proofs of `layouts`, `array_text` and `array_file`.
use Rattle.std.proofs.Common.{◌≡◌, ℕ, zero, suc, map, ◌+◌, ◌<◌, ◌≤◌, Bool, true, false, List, [], ◌∷◌, ◌++◌, Option, Some, None, Result, Ok, Err, option_map, if◌then◌else◌, refl, sym, ap, ◌∙◌, subst, arith}
use Rattle.std.specs.List.{flat_map, range_with_len}
use Rattle.std.proofs.lemmas.List.Concat.{flat_map-cons}
use Rattle.std.proofs.lemmas.Option.{none-some}
use Rattle.lists.specs.Rules.{Rule, first_broken, Judges}

-- each of these rules is kept
abbrev pub AllKept : {R : Type 0} → List (Rule R) → Type 0
AllKept [] = Unit {0}
AllKept (r ∷ rs) = (r.0 ≡ true) × AllKept rs

kept_first : {R : Type 0} (b : Bool) (refusal : R) (rs : List (Rule R)) → (first_broken rs ≡ None → AllKept rs)
    → (if b then first_broken rs else Some refusal) ≡ None → (b ≡ true) × AllKept rs
kept_first true refusal rs others e = (refl, others e)
kept_first false refusal rs others e = absurd (cc)

pub all_kept : {R : Type 0} (rules : List (Rule R)) → first_broken rules ≡ None → AllKept rules
all_kept [] e = tt
all_kept (r ∷ rs) e = kept_first r.0 r.1 rs (all_kept rs) e

pub none_broken : {R : Type 0} (rules : List (Rule R)) → AllKept rules → first_broken rules ≡ None
none_broken [] h = refl
none_broken (r ∷ rs) h = rw h.0 (none_broken rs h.1)

-- ---- the first of two groups of rules

-- if the first group is kept, the second one decides
pub first_broken-kept : {R : Type 0} (xs ys : List (Rule R)) → first_broken xs ≡ None → first_broken (xs ++ ys) ≡ first_broken ys
first_broken-kept [] ys e = refl
first_broken-kept (r ∷ rs) ys e =
    let kept = all_kept (r ∷ rs) e in rw kept.0 (first_broken-kept rs ys (none_broken rs kept.1))

broken_first : {R : Type 0} (b : Bool) (one refusal : R) (rs ys : List (Rule R)) → (first_broken rs ≡ Some refusal → first_broken (rs ++ ys) ≡ Some refusal)
    → (if b then first_broken rs else Some one) ≡ Some refusal → (if b then first_broken (rs ++ ys) else Some one) ≡ Some refusal
broken_first true one refusal rs ys others e = others e
broken_first false one refusal rs ys others e = e

-- if it is not, it decides itself
pub first_broken-broken : {R : Type 0} (xs ys : List (Rule R)) (refusal : R) → first_broken xs ≡ Some refusal → first_broken (xs ++ ys) ≡ Some refusal
first_broken-broken [] ys refusal e = absurd (cc)
first_broken-broken (r ∷ rs) ys refusal e = broken_first r.0 r.1 refusal rs ys (first_broken-broken rs ys refusal) e

-- if both are kept, the first one is kept
first_kept_of : {R : Type 0} (o : Option R) (xs ys : List (Rule R)) → first_broken xs ≡ o → first_broken (xs ++ ys) ≡ None → o ≡ None
first_kept_of None xs ys e both = refl
first_kept_of (Some refusal) xs ys e both = absurd (none-some refusal (sym both ∙ first_broken-broken xs ys refusal e))

pub first_kept : {R : Type 0} (xs ys : List (Rule R)) → first_broken (xs ++ ys) ≡ None → first_broken xs ≡ None
first_kept xs ys both = first_kept_of (first_broken xs) xs ys refl both

-- and the second one is kept
pub second_kept : {R : Type 0} (xs ys : List (Rule R)) → first_broken (xs ++ ys) ≡ None → first_broken ys ≡ None
second_kept xs ys both = sym (first_broken-kept xs ys (first_kept xs ys both)) ∙ both

-- ---- many groups of rules

-- if each group is kept, all of them together are kept
groups_kept : {R : Type 0} (group : ℕ → List (Rule R)) (n a : ℕ) → ((k : ℕ) → a ≤ k → k < a + n → first_broken (group k) ≡ None)
    → first_broken (flat_map group (range_with_len a n)) ≡ None
groups_kept group zero a kept = refl
groups_kept group (suc n) a kept =
    rw (flat_map-cons group a (range_with_len (a + 1) n))
    (first_broken-kept (group a) _ (kept a (omega arith) (omega arith))
    ∙ groups_kept group n (a + 1) (λ k from below. kept k (omega arith) (omega arith)))

groups_broken : {R : Type 0} (group : ℕ → List (Rule R)) (refusal : R) (n a k : ℕ) → ((j : ℕ) → a ≤ j → j < a + k → first_broken (group j) ≡ None)
    → k < n → first_broken (group (a + k)) ≡ Some refusal → first_broken (flat_map group (range_with_len a n)) ≡ Some refusal
groups_broken group refusal zero a k kept below e = absurd (omega arith)
groups_broken group refusal (suc n) a zero kept below e =
    let here : a + 0 ≡ a = omega arith in
    rw (flat_map-cons group a (range_with_len (a + 1) n))
    (first_broken-broken (group a) _ refusal (subst (λ j. first_broken (group j) ≡ Some refusal) here e))
groups_broken group refusal (suc n) a (suc k) kept below e =
    let there : a + suc k ≡ a + 1 + k = omega arith in
    rw (flat_map-cons group a (range_with_len (a + 1) n))
    (first_broken-kept (group a) _ (kept a (omega arith) (omega arith))
    ∙ groups_broken group refusal n (a + 1) k (λ j from before. kept j (omega arith) (omega arith)) (omega arith)
    (subst (λ j. first_broken (group j) ≡ Some refusal) there e))

-- if all are kept, each of them is kept
groups_kept_each : {R : Type 0} (group : ℕ → List (Rule R)) (n a k : ℕ) → first_broken (flat_map group (range_with_len a n)) ≡ None → k < n
    → first_broken (group (a + k)) ≡ None
groups_kept_each group zero a k e below = absurd (omega arith)
groups_kept_each group (suc n) a zero e below =
    let here : a ≡ a + 0 = omega arith in
    let split = rw (flat_map-cons group a (range_with_len (a + 1) n)) at e in
    subst (λ j. first_broken (group j) ≡ None) here (first_kept (group a) _ split)
groups_kept_each group (suc n) a (suc k) e below =
    let there : a + 1 + k ≡ a + suc k = omega arith in
    let split = rw (flat_map-cons group a (range_with_len (a + 1) n)) at e in
    subst (λ j. first_broken (group j) ≡ None) there
    (groups_kept_each group n (a + 1) k (sym (first_broken-kept (group a) _ (first_kept (group a) _ split)) ∙ split) (omega arith))

pub kept_below : {R : Type 0} (group : ℕ → List (Rule R)) (n : ℕ) → ((k : ℕ) → k < n → first_broken (group k) ≡ None)
    → first_broken (flat_map group (range_with_len 0 n)) ≡ None
kept_below group n kept = groups_kept group n 0 (λ k from below. kept k (omega arith))

pub broken_at : {R : Type 0} (group : ℕ → List (Rule R)) (n k : ℕ) (refusal : R) → ((j : ℕ) → j < k → first_broken (group j) ≡ None)
    → k < n → first_broken (group k) ≡ Some refusal → first_broken (flat_map group (range_with_len 0 n)) ≡ Some refusal
broken_at group n k refusal kept below e =
    let here : k ≡ 0 + k = omega arith in
    groups_broken group refusal n 0 k (λ j from before. kept j (omega arith)) below (subst (λ j. first_broken (group j) ≡ Some refusal) here e)

pub kept_at : {R : Type 0} (group : ℕ → List (Rule R)) (n k : ℕ) → first_broken (flat_map group (range_with_len 0 n)) ≡ None → k < n → first_broken (group k) ≡ None
kept_at group n k e below =
    let here : 0 + k ≡ k = omega arith in subst (λ j. first_broken (group j) ≡ None) here (groups_kept_each group n 0 k e below)

-- ---- a rule for each dimension

pub kept_dimensions : {R : Type 0} (rule : ℕ → Rule R) → ((d : ℕ) → d < 3 → (rule d).0 ≡ true) → first_broken (map rule (0 ∷ 1 ∷ 2 ∷ [])) ≡ None
kept_dimensions rule kept = none_broken (map rule (0 ∷ 1 ∷ 2 ∷ [])) (kept 0 (omega arith), (kept 1 (omega arith), (kept 2 (omega arith), tt)))

pub broken_dimension : {R : Type 0} (rule : ℕ → Rule R) (d : ℕ) → ((k : ℕ) → k < d → (rule k).0 ≡ true) → d < 3 → (rule d).0 ≡ false
    → first_broken (map rule (0 ∷ 1 ∷ 2 ∷ [])) ≡ Some (rule d).1
broken_dimension rule d kept below e =
    broken_at (λ k. rule k ∷ []) 3 d (rule d).1
    (λ k before. ap (λ (b : Bool). if b then None else Some (rule k).1) (kept k before)) below
    (ap (λ (b : Bool). if b then None else Some (rule d).1) e)

pub kept_dimension : {R : Type 0} (rule : ℕ → Rule R) (d : ℕ) → first_broken (map rule (0 ∷ 1 ∷ 2 ∷ [])) ≡ None → d < 3 → (rule d).0 ≡ true
kept_dimension rule d e below = (all_kept (rule d ∷ []) (kept_at (λ k. rule k ∷ []) 3 d e below)).0

-- ---- groups in their order

abbrev pub all_of : {R : Type 0} → List (List (Rule R)) → List (Rule R)
all_of {R = R} groups = flat_map (λ (group : List (Rule R)). group) groups

-- each of these groups is kept
abbrev pub GroupsKept : {R : Type 0} → List (List (Rule R)) → Type 0
GroupsKept [] = Unit {0}
GroupsKept (g ∷ gs) = (first_broken g ≡ None) × GroupsKept gs

-- if the groups before are kept, the rest decides
before_kept : {R : Type 0} (before after : List (List (Rule R))) → GroupsKept before → first_broken (all_of (before ++ after)) ≡ first_broken (all_of after)
before_kept [] after kept = refl
before_kept {R = R} (g ∷ gs) after kept =
    rw (flat_map-cons (λ (group : List (Rule R)). group) g (gs ++ after)) (first_broken-kept g _ kept.0 ∙ before_kept gs after kept.1)

-- the first group that is not kept decides
pub broken_group : {R : Type 0} (before : List (List (Rule R))) (g : List (Rule R)) (after : List (List (Rule R))) (refusal : R) → GroupsKept before → first_broken g ≡ Some refusal
    → first_broken (all_of (before ++ g ∷ after)) ≡ Some refusal
broken_group before g after refusal kept e = before_kept before (g ∷ after) kept ∙ first_broken-broken g (all_of after) refusal e

-- if the groups before the last are kept, the last one decides
pub last_group : {A R : Type 0} (before : List (List (Rule R))) (g : List (Rule R)) (result : Result A R) → GroupsKept before → Judges g result
    → Judges (all_of (before ++ g ∷ [])) result
last_group before g (Ok x) kept e = before_kept before (g ∷ []) kept ∙ first_broken-kept g [] e
last_group before g (Err refusal) kept e = broken_group before g [] refusal kept e

-- if all are kept, each of them is kept
pub groups_of_kept : {R : Type 0} (groups : List (List (Rule R))) → first_broken (all_of groups) ≡ None → GroupsKept groups
groups_of_kept [] e = tt
groups_of_kept {R = R} (g ∷ gs) e =
    let split = rw (flat_map-cons (λ (group : List (Rule R)). group) g gs) at e in
    (first_kept g (all_of gs) split, groups_of_kept gs (second_kept g (all_of gs) split))

-- ---- refusals that are wrapped in others

pub first_broken-map : {R S : Type 0} (wrap : R → S) (rules : List (Rule R)) → first_broken (map (λ r. (r.0, wrap r.1)) rules) ≡ option_map wrap (first_broken rules)
first_broken-map wrap [] = refl
first_broken-map {R = R} {S = S} wrap (r ∷ rs) = by_test r.0 r.1 (first_broken-map wrap rs)
  where
    by_test : (b : Bool) (refusal : R) → first_broken (map (λ r. (r.0, wrap r.1)) rs) ≡ option_map wrap (first_broken rs)
        → (if b then first_broken (map (λ r. (r.0, wrap r.1)) rs) else Some (wrap refusal)) ≡ option_map wrap (if b then first_broken rs else Some refusal)
    by_test true refusal e = e
    by_test false refusal e = refl
