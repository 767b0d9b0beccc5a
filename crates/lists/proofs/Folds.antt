-- Folds by an operation whose brackets do not matter: sums, smallest and largest numbers.
-- Used by the proofs of `cells`, `cell_fold` and `chunk_store`.
use Rattle.std.proofs.Common.{◌≡◌, ℕ, ◌+◌, ◌*◌, ◌^◌, ◌≤◌, ◌<◌, List, [], ◌∷◌, ◌++◌, ℤ, pos, negsuc, ◌+ℤ◌, ◌≤ℤ◌, refl, ap, ◌∙◌, arith, fold, Option, Some, None, unwrap_or, append-nil, SFits, w64}
use Rattle.std.specs.Int.{int_min, int_max}
use Rattle.std.specs.List.{cons_option}
use Rattle.std.proofs.lemmas.Int.{ints, clamps}
use Rattle.std.proofs.lemmas.List.Sums.{fold-append, fold_push}
use Rattle.lists.specs.Numbers.{sum_of, least_of, greatest_of, IsWithin}

pub fold-op : {X : Type 0} (op : X → X → X) → ((x y z : X) → op (op x y) z ≡ op x (op y z)) → (x y : X) (ys : List X) → fold op (op x y) ys ≡ op x (fold op y ys)
fold-op op same x y [] = refl
fold-op op same x y (z ∷ zs) = ap (λ w. fold op w zs) (same x y z) ∙ fold-op op same x (op y z) zs

pub fold-append_cons : {X : Type 0} (op : X → X → X) → ((x y z : X) → op (op x y) z ≡ op x (op y z)) → (x : X) (xs : List X) (y : X) (ys : List X)
    → fold op x (xs ++ y ∷ ys) ≡ op (fold op x xs) (fold op y ys)
fold-append_cons op same x xs y ys = fold-append op x xs (y ∷ ys) ∙ fold-op op same (fold op x xs) y ys

pub int_min-int_min : (x y z : ℤ) → int_min (int_min x y) z ≡ int_min x (int_min y z)
int_min-int_min x y z = omega (arith, ints, clamps)

pub int_max-int_max : (x y z : ℤ) → int_max (int_max x y) z ≡ int_max x (int_max y z)
int_max-int_max x y z = omega (arith, ints, clamps)

pub add-add : (x y z : ℤ) → (x +ℤ y) +ℤ z ≡ x +ℤ (y +ℤ z)
add-add x y z = omega (arith, ints)

pub sum_of-append : (xs ys : List ℤ) → sum_of (xs ++ ys) ≡ sum_of xs +ℤ sum_of ys
sum_of-append xs ys =
    let e : sum_of xs ≡ sum_of xs +ℤ pos 0 = omega (arith, ints) in
    fold-append ◌+ℤ◌ (pos 0) xs ys ∙ ap (λ z. fold ◌+ℤ◌ z ys) e ∙ fold-op ◌+ℤ◌ add-add (sum_of xs) (pos 0) ys

-- ---- one more number

-- the least so far and the next number, neither of which is above `most`
pub least_of-more : (xs : List ℤ) (o : Option ℤ) (most : ℤ) → unwrap_or (least_of xs) most ≤ℤ most → unwrap_or o most ≤ℤ most
    → unwrap_or (least_of (xs ++ cons_option o [])) most ≡ int_min (unwrap_or (least_of xs) most) (unwrap_or o most)
least_of-more xs None most below next = ap (λ l. unwrap_or (least_of l) most) (append-nil xs) ∙ omega (arith, ints, clamps, below)
least_of-more [] (Some x) most below next = omega (arith, ints, clamps, next)
least_of-more (y ∷ ys) (Some x) most below next = fold_push int_min y ys x

pub greatest_of-more : (xs : List ℤ) (o : Option ℤ) (fewest : ℤ) → fewest ≤ℤ unwrap_or (greatest_of xs) fewest → fewest ≤ℤ unwrap_or o fewest
    → unwrap_or (greatest_of (xs ++ cons_option o [])) fewest ≡ int_max (unwrap_or (greatest_of xs) fewest) (unwrap_or o fewest)
greatest_of-more xs None fewest above next = ap (λ l. unwrap_or (greatest_of l) fewest) (append-nil xs) ∙ omega (arith, ints, clamps, above)
greatest_of-more [] (Some x) fewest above next = omega (arith, ints, clamps, next)
greatest_of-more (y ∷ ys) (Some x) fewest above next = fold_push int_max y ys x

pub sum_of-cons_option : (xs : List ℤ) (o : Option ℤ) → sum_of (xs ++ cons_option o []) ≡ sum_of xs +ℤ unwrap_or o (pos 0)
sum_of-cons_option xs None = ap sum_of (append-nil xs) ∙ omega (arith, ints)
sum_of-cons_option xs (Some x) = fold_push ◌+ℤ◌ (pos 0) xs x

-- ---- sums that fit

pub within-fits : (z : ℤ) (m : ℕ) → IsWithin z m → m < 2 ^ 63 → SFits w64 z
within-fits (pos n) m h small = record { sfits = omega (arith, ints, h.high) }
within-fits (negsuc n) m h small = record { sfits = omega (arith, ints, h.low) }

pub sums-fit : (a b : ℤ) (m n : ℕ) → IsWithin a (2 ^ 31 * m) → IsWithin b (2 ^ 31 * n) → m + n ≤ 2 ^ 26 → SFits w64 (a +ℤ b)
sums-fit a b m n p q few =
    within-fits (a +ℤ b) (2 ^ 31 * (m + n)) (record { low = omega (arith, ints, p.low, q.low); high = omega (arith, ints, p.high, q.high) }) (omega arith)
