-- What the summaries of biased cells say of the numbers of those cells.
-- Used by the proofs of `biased_of`, `mixed_record`, `part_record` and `present_record`.
use Rattle.std.proofs.Common.{◌≡◌, ℕ, zero, suc, ◌+◌, ◌*◌, ◌^◌, ◌-◌, ◌<◌, max, min, List, [], ◌∷◌, ◌++◌, length, map, get_or, take, drop, filter_map, ℤ, pos, negsuc, ◌+ℤ◌, ◌≤ℤ◌, Option, Some, None, unwrap_or, refl, sym, ap, ◌∙◌, SFits, w32, arith}
use Rattle.std.specs.Int.{int_min, int_max}
use Rattle.std.specs.List.{cons_option}
use Rattle.std.specs.Ordering.{int_eq}
use Rattle.std.specs.Simd.{first_chunks}
use Rattle.std.proofs.lemmas.Int.{ints, clamps}
use Rattle.std.proofs.lemmas.Bool.{cond_both}
use Rattle.std.proofs.lemmas.List.{length-append}
use Rattle.std.proofs.lemmas.Bool.Decides.{Decides-int_eq, not_from_Decides}
use Rattle.std.proofs.Math.Seq.{take-add}
use lib.Lanes.{sum_l, Each1}
use Rattle.cells.specs.Cells.{cell_value}
use Rattle.cell_fold.specs.Lanes.{biased, cells_of_eights, lowered, greatest_of_lanes, least_of_lanes}
use Rattle.lists.specs.Numbers.{sum_of, least_of, greatest_of, IsWithin}
use Rattle.cells.specs.Records.{record_of}
use Rattle.cells.specs.declared.cell.Cell.{Cell}
use Rattle.cell_fold.proofs.LaneSums.{lowest_le}
use Rattle.lists.proofs.Folds.{fold-op, int_min-int_min, int_max-int_max, sum_of-append}
use Rattle.lists.proofs.Sums.{within_abs, abs_of_32_bits, most_of_32_bits, fewest_of_32_bits}

-- ---- one cell

biased_is : (c : Cell) → SFits w32 c.0 → pos (biased c) ≡ c.0 +ℤ pos 2147483648
biased_is c fits = omega (arith, ints, fewest_of_32_bits c.0 fits)

-- a statement that holds of no number if a cell is empty, and otherwise of the stored number, holds of its number
cell_cases : (c : Cell) (P : Option ℤ → Type 0) → (c.0 ≡ negsuc 2147483647 → P None) → ((c.0 ≡ negsuc 2147483647 → ⊥) → P (Some c.0)) → P (cell_value c)
cell_cases c P empty present =
    let decided = Decides-int_eq c.0 (negsuc 2147483647) in
    cond_both (int_eq c.0 (negsuc 2147483647)) None (Some c.0) P (λ e. empty (decided.0 e)) (λ e. present (not_from_Decides (int_eq c.0 (negsuc 2147483647)) decided e))

-- ---- one more number

least-cons : (z : ℤ) (zs : List ℤ) → z ≤ℤ pos 2147483648 → unwrap_or (least_of (z ∷ zs)) (pos 2147483648) ≡ int_min z (unwrap_or (least_of zs) (pos 2147483648))
least-cons z [] h = omega (arith, ints, clamps)
least-cons z (y ∷ ys) h = fold-op int_min int_min-int_min z y ys

greatest-cons : (z : ℤ) (zs : List ℤ) → negsuc 2147483647 ≤ℤ z → unwrap_or (greatest_of (z ∷ zs)) (negsuc 2147483647) ≡ int_max z (unwrap_or (greatest_of zs) (negsuc 2147483647))
greatest-cons z [] h = omega (arith, ints, clamps)
greatest-cons z (y ∷ ys) h = fold-op int_max int_max-int_max z y ys

sum-cons : (z : ℤ) (zs : List ℤ) → sum_of (z ∷ zs) ≡ z +ℤ sum_of zs
sum-cons z zs = sum_of-append (z ∷ []) zs ∙ ap (λ y. y +ℤ sum_of zs) (omega (arith, ints))

-- ---- all cells

pub greatest_of_lanes-biased : (cells : List Cell) → Each1 (λ c. SFits w32 c.0) cells
    → pos (greatest_of_lanes (map biased cells)) ≡ unwrap_or (greatest_of (filter_map cell_value cells)) (negsuc 2147483647) +ℤ pos 2147483648
greatest_of_lanes-biased [] h = omega (arith, ints)
greatest_of_lanes-biased (c ∷ cells) h =
    let rest = greatest_of_lanes-biased cells h.1 in
    let here = biased_is c h.0 in
    cell_cases c (λ o. pos (max (biased c) (greatest_of_lanes (map biased cells))) ≡ unwrap_or (greatest_of (cons_option o (filter_map cell_value cells))) (negsuc 2147483647) +ℤ pos 2147483648)
    (λ e. omega (arith, ints, clamps))
    (λ ne. let more = greatest-cons c.0 (filter_map cell_value cells) (fewest_of_32_bits c.0 h.0) in omega (arith, ints, clamps))

pub least_of_lanes-biased : (cells : List Cell) → Each1 (λ c. SFits w32 c.0) cells
    → pos (least_of_lanes (map lowered (map biased cells))) +ℤ pos 1 ≡ unwrap_or (least_of (filter_map cell_value cells)) (pos 2147483648) +ℤ pos 2147483648
least_of_lanes-biased [] h = omega (arith, ints)
least_of_lanes-biased (c ∷ cells) h =
    let rest = least_of_lanes-biased cells h.1 in
    let here = biased_is c h.0 in
    let greatest_of_lanes = most_of_32_bits c.0 h.0 in
    cell_cases c (λ o. pos (min (lowered (biased c)) (least_of_lanes (map lowered (map biased cells)))) +ℤ pos 1 ≡ unwrap_or (least_of (cons_option o (filter_map cell_value cells))) (pos 2147483648) +ℤ pos 2147483648)
    (λ e. let last : lowered (biased c) ≡ 2 ^ 32 - 1 = omega (arith, ints) in let below = lowest_le (map lowered (map biased cells)) in omega (arith, ints, clamps))
    (λ ne. let one_less : lowered (biased c) + 1 ≡ biased c = omega (arith, ints) in
    let more = least-cons c.0 (filter_map cell_value cells) (omega (arith, ints)) in omega (arith, ints, clamps))

pub ones-biased : (cells : List Cell) → Each1 (λ c. SFits w32 c.0) cells → sum_l (map (λ n. min n 1) (map biased cells)) ≡ length (filter_map cell_value cells)
ones-biased [] h = refl
ones-biased (c ∷ cells) h =
    let rest = ones-biased cells h.1 in
    let here = biased_is c h.0 in
    let few = fewest_of_32_bits c.0 h.0 in
    cell_cases c (λ o. min (biased c) 1 + sum_l (map (λ n. min n 1) (map biased cells)) ≡ length (cons_option o (filter_map cell_value cells)))
    (λ e. omega (arith, ints)) (λ ne. omega (arith, ints))

pub sum-biased : (cells : List Cell) → Each1 (λ c. SFits w32 c.0) cells
    → pos (sum_l (map biased cells)) ≡ sum_of (filter_map cell_value cells) +ℤ pos (2147483648 * length (filter_map cell_value cells))
sum-biased [] h = omega (arith, ints)
sum-biased (c ∷ cells) h =
    let rest = sum-biased cells h.1 in
    let here = biased_is c h.0 in
    cell_cases c (λ o. pos (biased c + sum_l (map biased cells)) ≡ sum_of (cons_option o (filter_map cell_value cells)) +ℤ pos (2147483648 * length (cons_option o (filter_map cell_value cells))))
    (λ e. omega (arith, ints))
    (λ ne. let more = sum-cons c.0 (filter_map cell_value cells) in omega (arith, ints))

pub within-present : (cells : List Cell) → Each1 (λ c. SFits w32 c.0) cells → IsWithin (sum_of (filter_map cell_value cells)) (2 ^ 31 * length (filter_map cell_value cells))
within-present [] h = record { low = omega (arith, ints); high = omega (arith, ints) }
within-present (c ∷ cells) h =
    let rest = within-present cells h.1 in
    let size = within_abs c.0 (2 ^ 31) (abs_of_32_bits c.0 h.0) in
    let more = sum-cons c.0 (filter_map cell_value cells) in
    cell_cases c (λ o. IsWithin (sum_of (cons_option o (filter_map cell_value cells))) (2 ^ 31 * length (cons_option o (filter_map cell_value cells))))
    (λ e. rest)
    (λ ne. record { low = omega (arith, ints, rest.low, size.low); high = omega (arith, ints, rest.high, size.high) })

-- ---- the record

pub record_of-none : (zs : List ℤ) → length zs ≡ 0 → record { least = pos 0; greatest = pos 0; sum = pos 0; count = 0 } ≡ record_of zs
record_of-none [] h = refl
record_of-none (z ∷ zs) h = absurd (omega arith)

pub record_of-some : (zs : List ℤ) (least greatest sum : ℤ) (count : ℕ) → (count ≡ 0 → ⊥) → count ≡ length zs → least ≡ unwrap_or (least_of zs) (pos 2147483648)
    → greatest ≡ unwrap_or (greatest_of zs) (negsuc 2147483647) → sum ≡ sum_of zs → record { least = least; greatest = greatest; sum = sum; count = count } ≡ record_of zs
record_of-some [] least greatest sum count some is_count is_least is_greatest is_sum = absurd (some is_count)
record_of-some (z ∷ zs) least greatest sum count some is_count is_least is_greatest is_sum =
    (λ i. record { least = is_least i; greatest = is_greatest i; sum = is_sum i; count = is_count i })

-- if a cell is present, the least of the lowered cells is below the greatest number that 32 bits hold
pub least_of_lanes-some : (cells : List Cell) → Each1 (λ c. SFits w32 c.0) cells → (length (filter_map cell_value cells) ≡ 0 → ⊥) → least_of_lanes (map lowered (map biased cells)) + 1 < 2 ^ 32
least_of_lanes-some cells h some =
    let is = least_of_lanes-biased cells h in
    let below = least_le cells h some in
    omega (arith, ints)
  where
    least_le : (cells : List Cell) → Each1 (λ c. SFits w32 c.0) cells → (length (filter_map cell_value cells) ≡ 0 → ⊥) → unwrap_or (least_of (filter_map cell_value cells)) (pos 2147483648) ≤ℤ pos 2147483647
    least_le [] h some = absurd (some refl)
    least_le (c ∷ cells) h some =
        let greatest_of_lanes = most_of_32_bits c.0 h.0 in
        cell_cases c (λ o. (length (cons_option o (filter_map cell_value cells)) ≡ 0 → ⊥) → unwrap_or (least_of (cons_option o (filter_map cell_value cells))) (pos 2147483648) ≤ℤ pos 2147483647)
        (λ e some'. least_le cells h.1 some')
        (λ ne some'. let more = least-cons c.0 (filter_map cell_value cells) (omega (arith, ints)) in omega (arith, ints, clamps)) some

-- cells none of which is empty

pub all-present : (cells : List Cell) → Each1 (λ c. SFits w32 c.0) cells → (least_of_lanes (map biased cells) ≡ 0 → ⊥) → length (filter_map cell_value cells) ≡ length cells
all-present [] h some = refl
all-present (c ∷ cells) h some =
    let here = biased_is c h.0 in
    cell_cases c (λ o. length (cons_option o (filter_map cell_value cells)) ≡ length (c ∷ cells))
    (λ e. let none : biased c ≡ 0 = omega (arith, ints) in absurd (some (omega arith)))
    (λ ne. let rest = all-present cells h.1 (λ none. some (omega arith)) in omega arith)

-- the first of cells none of which is empty
one_less_present : (c : Cell) (cells : List Cell) → SFits w32 c.0 → (least_of_lanes (map biased (c ∷ cells)) ≡ 0 → ⊥) → lowered (biased c) + 1 ≡ biased c
one_less_present c cells fits some =
    let here = biased_is c fits in
    let greatest_of_lanes = most_of_32_bits c.0 fits in
    let present : biased c ≡ 0 → ⊥ = (λ none. some (omega arith)) in
    omega (arith, ints, present)

pub least_of_lanes-present : (cells : List Cell) → Each1 (λ c. SFits w32 c.0) cells → 0 < length cells → (least_of_lanes (map biased cells) ≡ 0 → ⊥)
    → least_of_lanes (map lowered (map biased cells)) + 1 ≡ least_of_lanes (map biased cells)
least_of_lanes-present [] h long some = absurd (omega arith)
least_of_lanes-present (c ∷ []) h long some =
    let one_less = one_less_present c [] h.0 some in
    let here = biased_is c h.0 in
    let greatest_of_lanes = most_of_32_bits c.0 h.0 in
    omega (arith, ints)
least_of_lanes-present (c ∷ d ∷ cells) h long some =
    let one_less = one_less_present c (d ∷ cells) h.0 some in
    let rest = least_of_lanes-present (d ∷ cells) h.1 (omega arith) (λ none. some (omega arith)) in
    omega arith

-- ---- eights

pub cells_of_eights-first_chunks : (k : ℕ) (xs : List Cell) → cells_of_eights (first_chunks 8 k xs) ≡ take (k * 8) xs
cells_of_eights-first_chunks zero xs = refl
cells_of_eights-first_chunks (suc k) xs = ap (λ ys. take 8 xs ++ ys) (cells_of_eights-first_chunks k (drop 8 xs)) ∙ sym (take-add 8 (k * 8) xs) ∙ ap (λ m. take m xs) (omega arith)

pub cells_of_eights-long : (eights : List (List Cell)) → ((i : ℕ) → i < length eights → length (get_or eights i []) ≡ 8) → length (cells_of_eights eights) ≡ 8 * length eights
cells_of_eights-long [] each = refl
cells_of_eights-long (eight ∷ eights) each =
    let rest = cells_of_eights-long eights (λ i lt. each (suc i) (omega (arith, lt))) in
    omega (arith, length-append eight (cells_of_eights eights), each 0 (omega arith), rest)

pub eight_items : {X : Type 0} (xs : List X) (d : X) → length xs ≡ 8
    → xs ≡ get_or xs 0 d ∷ get_or xs 1 d ∷ get_or xs 2 d ∷ get_or xs 3 d ∷ get_or xs 4 d ∷ get_or xs 5 d ∷ get_or xs 6 d ∷ get_or xs 7 d ∷ []
eight_items (x_1 ∷ x_2 ∷ x_3 ∷ x_4 ∷ x_5 ∷ x_6 ∷ x_7 ∷ x_8 ∷ []) d h = refl
eight_items (x_1 ∷ x_2 ∷ x_3 ∷ x_4 ∷ x_5 ∷ x_6 ∷ x_7 ∷ x_8 ∷ x_9 ∷ xs) d h = absurd (omega arith)
eight_items [] d h = absurd (omega arith)
eight_items (x_1 ∷ []) d h = absurd (omega arith)
eight_items (x_1 ∷ x_2 ∷ []) d h = absurd (omega arith)
eight_items (x_1 ∷ x_2 ∷ x_3 ∷ []) d h = absurd (omega arith)
eight_items (x_1 ∷ x_2 ∷ x_3 ∷ x_4 ∷ []) d h = absurd (omega arith)
eight_items (x_1 ∷ x_2 ∷ x_3 ∷ x_4 ∷ x_5 ∷ []) d h = absurd (omega arith)
eight_items (x_1 ∷ x_2 ∷ x_3 ∷ x_4 ∷ x_5 ∷ x_6 ∷ []) d h = absurd (omega arith)
eight_items (x_1 ∷ x_2 ∷ x_3 ∷ x_4 ∷ x_5 ∷ x_6 ∷ x_7 ∷ []) d h = absurd (omega arith)
