-- The record so far, and one more cell.
-- Used by the proofs of `fold`.
use Rattle.std.proofs.Common.{◌≡◌, ℕ, ◌+◌, ◌*◌, ◌^◌, ◌≤◌, ◌<◌, Bool, true, false, List, [], ◌∷◌, ◌++◌, length, ℤ, pos, ◌+ℤ◌, get_or, take, refl, sym, ap, subst, ◌∙◌, arith, filter_map, Option, Some, None, is_some, unwrap_or, SFits, to_z, of_z, w32, w64}
use mir.Val.{bool_byte}
use Rattle.std.specs.List.{cons_option}
use Rattle.std.proofs.lemmas.Int.{ints}
use Rattle.std.proofs.lemmas.List.{take_more}
use Rattle.std.proofs.lemmas.List.Elements.{filter_map-append}
use Rattle.lists.specs.Numbers.{sum_of, IsWithin}
use Rattle.lists.proofs.Folds.{sum_of-cons_option}
use Rattle.lists.proofs.Sums.{within_abs, abs_of_32_bits}

-- a present cell is one more number
pub length-cons_option : {X : Type 0} (o : Option X) → bool_byte (is_some o) ≡ length (cons_option o [])
length-cons_option None = refl
length-cons_option (Some x) = refl

pub bool_byte_le : (b : Bool) → bool_byte b ≤ 1
bool_byte_le true = omega arith
bool_byte_le false = omega arith

pub filter_map-take_more : {X Y : Type 0} (f : X → Option Y) (xs : List X) (i : ℕ) (d : X) → i < length xs → filter_map f (take (i + 1) xs) ≡ filter_map f (take i xs) ++ cons_option (f (get_or xs i d)) []
filter_map-take_more f xs i d h = ap (filter_map f) (take_more xs i d h) ∙ filter_map-append f (take i xs) (get_or xs i d ∷ [])

within-cons_option : (total : ℤ) (n : ℕ) (o : Option ℤ) → IsWithin total (2 ^ 31 * n) → SFits w32 (unwrap_or o (pos 0)) → IsWithin (total +ℤ unwrap_or o (pos 0)) (2 ^ 31 * (n + bool_byte (is_some o)))
within-cons_option total n None within fits = record { low = omega (arith, ints, within.low); high = omega (arith, ints, within.high) }
within-cons_option total n (Some x) within fits =
    let size = within_abs x (2 ^ 31) (abs_of_32_bits x fits) in
    record { low = omega (arith, ints, within.low, size.low); high = omega (arith, ints, within.high, size.high) }

-- the sum so far and the next number, in the code's arithmetic
pub sum_of-more : (xs : List ℤ) (o : Option ℤ) (total x : ℤ) (n : ℕ) → x ≡ unwrap_or o (pos 0) → SFits w32 x → total ≡ sum_of xs → IsWithin total (2 ^ 31 * n) → n < 2 ^ 26
    → (to_z w64 (of_z w64 (total +ℤ to_z w64 (of_z w64 (to_z w32 (of_z w32 x))))) ≡ sum_of (xs ++ cons_option o [])) × IsWithin (to_z w64 (of_z w64 (total +ℤ to_z w64 (of_z w64 (to_z w32 (of_z w32 x)))))) (2 ^ 31 * (n + bool_byte (is_some o)))
sum_of-more xs o total x n is_x fits is_total within few =
    let size = within_abs x (2 ^ 31) (abs_of_32_bits x fits) in
    let same : to_z w64 (of_z w64 (total +ℤ to_z w64 (of_z w64 (to_z w32 (of_z w32 x))))) ≡ total +ℤ x = omega (arith, ints, within.low, within.high, size.low, size.high) in
    let next : total +ℤ x ≡ total +ℤ unwrap_or o (pos 0) = ap (λ z. total +ℤ z) is_x in (
      same ∙ next ∙ ap (λ z. z +ℤ unwrap_or o (pos 0)) is_total ∙ sym (sum_of-cons_option xs o),
      subst (λ z. IsWithin z (2 ^ 31 * (n + bool_byte (is_some o)))) (sym (same ∙ next)) (within-cons_option total n o within (subst (SFits w32) is_x fits)),
    )
