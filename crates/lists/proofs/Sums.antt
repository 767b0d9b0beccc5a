-- Signed sums of lists, one item after the other.
-- Used by the proofs of `cell_fold`, `query_model` and `array_text`.
use Rattle.std.proofs.Common.{◌≡◌, ℕ, ◌+◌, ◌^◌, ◌≤◌, ◌<◌, List, [], ◌∷◌, take, length, get_or, map, ℤ, pos, negsuc, ◌+ℤ◌, ◌≤ℤ◌, unsigned_abs, ap, ◌∙◌, arith, SFits, w32}
use Rattle.std.proofs.lemmas.Int.{ints}
use Rattle.std.proofs.lemmas.List.Sums.{fold-append}
use Rattle.std.proofs.lemmas.List.{take_more, map-append}
use Rattle.lists.specs.Numbers.{sum_of, IsWithin}

pub within_abs : (z : ℤ) (m : ℕ) → unsigned_abs z ≤ m → IsWithin z m
within_abs (pos n) m h = record { low = omega (arith, ints); high = omega (arith, ints) }
within_abs (negsuc n) m h = record { low = omega (arith, ints); high = omega (arith, ints) }

pub abs_of_32_bits : (z : ℤ) → SFits w32 z → unsigned_abs z ≤ 2 ^ 31
abs_of_32_bits (pos n) h = omega (arith, h.sfits)
abs_of_32_bits (negsuc n) h = omega (arith, h.sfits)

pub most_of_32_bits : (z : ℤ) → SFits w32 z → z ≤ℤ pos 2147483647
most_of_32_bits (pos n) h = omega (arith, ints, h.sfits)
most_of_32_bits (negsuc n) h = omega (arith, ints)

pub fewest_of_32_bits : (z : ℤ) → SFits w32 z → negsuc 2147483647 ≤ℤ z
fewest_of_32_bits (pos n) h = omega (arith, ints)
fewest_of_32_bits (negsuc n) h = omega (arith, ints, h.sfits)

pub sum_of-map_more : {X : Type 0} (f : X → ℤ) (xs : List X) (i : ℕ) (d : X) → i < length xs → sum_of (map f (take (i + 1) xs)) ≡ sum_of (map f (take i xs)) +ℤ f (get_or xs i d)
sum_of-map_more f xs i d h =
    ap (λ l. sum_of (map f l)) (take_more xs i d h) ∙ ap sum_of (map-append f (take i xs) (get_or xs i d ∷ []))
    ∙ fold-append ◌+ℤ◌ (pos 0) (map f (take i xs)) (f (get_or xs i d) ∷ [])
