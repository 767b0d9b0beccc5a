-- Ranges of numbers, and the items at them.
-- Used by the proofs of `grids`, `cells`, `layouts`, `cell_fold`, `domains`, `array_file`, `chunk_store` and `report`.
use Rattle.std.proofs.Common.{◌≡◌, ℕ, zero, suc, ◌+◌, ◌-◌, ◌<◌, ◌≤◌, Bool, true, false, inl, inr, List, [], ◌∷◌, ◌++◌, length, get_or, take, drop, refl, sym, ap, ◌∙◌, arith, filter, filter_map, Option, Some, None, option_and_then, slice_get, append-nil, ◌*◌, map}
use Rattle.std.specs.List.{range_with_len, cons_option, flat_map}
use Rattle.std.proofs.lemmas.Option.{slice_get-get_or}
use Rattle.std.proofs.lemmas.List.Elements.{filter-append}
use Rattle.std.proofs.Math.Seq.{drop-cons}
use Rattle.lists.proofs.Members.{IsIn, filter_whole, filter_none}

pub range_with_len-add : (a m n : ℕ) → range_with_len a (m + n) ≡ range_with_len a m ++ range_with_len (a + m) n
range_with_len-add a zero n = (λ i. range_with_len (same a i) (none n i))
  where
    same : (a : ℕ) → a ≡ a + 0
    same a = omega arith

    none : (n : ℕ) → 0 + n ≡ n
    none n = omega arith
range_with_len-add a (suc m) n =
    let e : suc m + n ≡ suc (m + n) = omega arith in
    let f : (a + 1) + m ≡ a + suc m = omega arith in
    ap (range_with_len a) e ∙ ap (λ l. a ∷ l) (range_with_len-add (a + 1) m n ∙ ap (λ k. range_with_len (a + 1) m ++ range_with_len k n) f)

pub in_range : (a n k : ℕ) → IsIn k (range_with_len a n) → (a ≤ k) × (k < a + n)
in_range a zero k h = elim h [ ]
in_range a (suc n) k (inl e) = (omega arith, omega arith)
in_range a (suc n) k (inr h) = let r = in_range (a + 1) n k h in (omega arith, omega arith)

-- a test that passes exactly from one number up to another keeps those
pub filter-range_with_len : (p : ℕ → Bool) (from to n : ℕ) → from ≤ to → to ≤ n
    → ((k : ℕ) → k < from → p k ≡ false) → ((k : ℕ) → from ≤ k → k < to → p k ≡ true) → ((k : ℕ) → to ≤ k → p k ≡ false)
    → filter p (range_with_len 0 n) ≡ range_with_len from (to - from)
filter-range_with_len p from to n ordered within before inside after =
    let parts : n ≡ from + ((to - from) + (n - to)) = omega arith in
    let first : filter p (range_with_len 0 from) ≡ [] = filter_none p (range_with_len 0 from) (λ k i. let r = in_range 0 from k i in before k (omega arith)) in
    let middle : filter p (range_with_len (0 + from) (to - from)) ≡ range_with_len (0 + from) (to - from) =
    filter_whole p (range_with_len (0 + from) (to - from)) (λ k i. let r = in_range (0 + from) (to - from) k i in inside k (omega arith) (omega arith)) in
    let last : filter p (range_with_len ((0 + from) + (to - from)) (n - to)) ≡ [] =
    filter_none p (range_with_len ((0 + from) + (to - from)) (n - to)) (λ k i. let r = in_range ((0 + from) + (to - from)) (n - to) k i in after k (omega arith)) in
    let zero_from : 0 + from ≡ from = omega arith in
    ap (λ k. filter p (range_with_len 0 k)) parts
    ∙ ap (filter p) (range_with_len-add 0 from ((to - from) + (n - to)) ∙ ap (λ l. range_with_len 0 from ++ l) (range_with_len-add (0 + from) (to - from) (n - to)))
    ∙ filter-append p (range_with_len 0 from) (range_with_len (0 + from) (to - from) ++ range_with_len ((0 + from) + (to - from)) (n - to))
    ∙ ap (λ l. filter p (range_with_len 0 from) ++ l) (filter-append p (range_with_len (0 + from) (to - from)) (range_with_len ((0 + from) + (to - from)) (n - to)))
    ∙ (λ i. first i ++ (middle i ++ last i))
    ∙ append-nil (range_with_len (0 + from) (to - from))
    ∙ ap (λ k. range_with_len k (to - from)) zero_from

-- the items at a range of indices are the items of that part of the list
pub items-range_with_len : {X : Type 0} (xs : List (Option X)) (from n : ℕ) → from + n ≤ length xs
    → filter_map (λ k. option_and_then (λ (x : Option X). x) (slice_get xs k)) (range_with_len from n) ≡ filter_map (λ x. x) (take n (drop from xs))
items-range_with_len xs from zero h = refl
items-range_with_len {X = X} xs from (suc n) h =
    let next : suc from ≡ from + 1 = omega arith in
    let e : drop from xs ≡ get_or xs from None ∷ drop (from + 1) xs = drop-cons xs from None (omega arith) ∙ ap (λ k. get_or xs from None ∷ drop k xs) next in
    let g : slice_get xs from ≡ Some (get_or xs from None) = slice_get-get_or xs from None (omega arith) in
    let here = λ (o : Option X). cons_option o (filter_map (λ k. option_and_then (λ (x : Option X). x) (slice_get xs k)) (range_with_len (from + 1) n)) in
    ap (λ o. here (option_and_then (λ (x : Option X). x) o)) g
    ∙ ap (λ l. cons_option (get_or xs from None) l) (items-range_with_len xs (from + 1) n (omega arith))
    ∙ ap (λ l. filter_map (λ (x : Option X). x) (take (suc n) l)) (sym e)

pub length-range : (a n : ℕ) → length (range_with_len a n) ≡ n
length-range a zero = refl
length-range a (suc n) = let rest = length-range (a + 1) n in omega (arith, rest)

-- ---- a range that is cut into parts

pub range_with_len-shift : (b a n : ℕ) → range_with_len (b + a) n ≡ map (λ j. b + j) (range_with_len a n)
range_with_len-shift b a zero = refl
range_with_len-shift b a (suc n) =
    let next : (b + a) + 1 ≡ b + (a + 1) = omega arith in
    ap (λ l. (b + a) ∷ l) (ap (λ k. range_with_len k n) next ∙ range_with_len-shift b (a + 1) n)

-- the numbers of the c-th part of p numbers each
abbrev pub numbers_of_part : ℕ → List ℕ → ℕ → List ℕ
numbers_of_part p js c = map (λ j. c * p + j) js

pub range_with_len-times : (a n p : ℕ) → range_with_len (a * p) (n * p) ≡ flat_map (numbers_of_part p (range_with_len 0 p)) (range_with_len a n)
range_with_len-times a zero p =
    let none : zero * p ≡ 0 = omega arith in ap (range_with_len (a * p)) none
range_with_len-times a (suc n) p =
    let size : suc n * p ≡ p + n * p = omega arith in
    let start : a * p ≡ a * p + 0 = omega arith in
    let next : a * p + p ≡ (a + 1) * p = omega arith in
    ap (range_with_len (a * p)) size ∙ range_with_len-add (a * p) p (n * p)
    ∙ (λ i. (ap (λ k. range_with_len k p) start ∙ range_with_len-shift (a * p) 0 p) i ++ (ap (λ k. range_with_len k (n * p)) next ∙ range_with_len-times (a + 1) n p) i)

-- parts that are counted from an index on
pub flat_map-from : {X : Type 0} (f : ℕ → List X) (from a n : ℕ) → flat_map (λ c. f (c - from)) (range_with_len (from + a) n) ≡ flat_map f (range_with_len a n)
flat_map-from f from a zero = refl
flat_map-from f from a (suc n) =
    let here : (from + a) - from ≡ a = omega arith in
    let next : (from + a) + 1 ≡ from + (a + 1) = omega arith in
    (λ i. f (here i) ++ (ap (λ k. flat_map (λ c. f (c - from)) (range_with_len k n)) next ∙ flat_map-from f from (a + 1) n) i)
