-- Cells that words write are numbers of 32 bits.
-- Used by the proof of `what_is_read_has_a_plain_text`.
use Rattle.std.proofs.Common.{◌≡◌, ℕ, zero, suc, ◌≤◌, ◌==◌, nat_le, Bool, true, false, cond, List, [], ◌∷◌, ◌++◌, map, All, Option, Some, None, bytes_eq, codes, refl, subst, arith, pos, neg_ℤ, w32}
use Rattle.std.specs.Prelude.{FitsSigned}
use Rattle.std.specs.List.{AllZip}
use Rattle.std.specs.Option.{option_map, option_and_then}
use Rattle.std.proofs.Math.Facts.{sfits_lit}
use Rattle.std.proofs.lemmas.Bool.{leb-true}
use Rattle.std.proofs.lemmas.Int.{fits_signed_from_abs}
use Rattle.std.proofs.lemmas.List.Elements.{All-nil, All-cons}
use Rattle.std.proofs.lemmas.Option.{same_Some}
use Rattle.cells.specs.Cells.{empty_cell}
use Rattle.cells.specs.declared.cell.Cell.{Cell}
use Rattle.array_text.specs.Contents.{Item, cell, IsWrittenAs}
use Rattle.array_text.specs.Numbers.{number_written, up_to, cell_number, stored, positive_cell, negative_cell, number_cell, cell_of}

abbrev IsOf32Bits : Cell → Type 0
IsOf32Bits c = FitsSigned w32 c.0

-- ---- what a word writes

up_to_some : (p : Bool) (n m : ℕ) → cond p (Some n) None ≡ Some m → (p ≡ true) × (n ≡ m)
up_to_some true n m e = (refl, same_Some n m e)
up_to_some false n m e = absurd (cc)

few : (o : Option ℕ) (n : ℕ) → option_and_then (up_to 2147483647) o ≡ Some n → n ≤ 2147483647
few None n e = absurd (cc)
few (Some m) n e =
    let found = up_to_some (nat_le m 2147483647) m n e in
    subst (λ k. k ≤ 2147483647) found.1 (leb-true m 2147483647 found.0)

signed_fits : (n : ℕ) → n ≤ 2147483647 → FitsSigned w32 (neg_ℤ (pos n))
signed_fits zero most = fits_signed_from_abs w32 (pos 0) (omega arith)
signed_fits (suc n) most = fits_signed_from_abs w32 (neg_ℤ (pos (suc n))) (omega (arith, most))

mapped : (f : ℕ → Cell) (o : Option ℕ) (c : Cell) → option_map f o ≡ Some c → ((n : ℕ) → o ≡ Some n → IsOf32Bits (f n)) → IsOf32Bits c
mapped f None c e fits = absurd (cc)
mapped f (Some n) c e fits = subst IsOf32Bits (same_Some (f n) c e) (fits n refl)

by_sign : (minus : Bool) (bs w : List ℕ) (c : Cell) → cond minus (negative_cell bs) (positive_cell w) ≡ Some c → IsOf32Bits c
by_sign true bs w c e = mapped (λ n. stored (neg_ℤ (pos n))) (cell_number bs) c e (λ n f. signed_fits n (few (number_written bs) n f))
by_sign false bs w c e = mapped (λ n. stored (pos n)) (cell_number w) c e (λ n f. fits_signed_from_abs w32 (pos n) (omega (arith, few (number_written w) n f)))

number_fits : (w : List ℕ) (c : Cell) → number_cell w ≡ Some c → IsOf32Bits c
number_fits [] c e = absurd (cc)
number_fits (b ∷ bs) c e = by_sign (b == 45) bs (b ∷ bs) c e

by_point : (point : Bool) (w : List ℕ) (c : Cell) → cond point (Some empty_cell) (number_cell w) ≡ Some c → IsOf32Bits c
by_point true w c e = subst IsOf32Bits (same_Some empty_cell c e) (sfits_lit tt)
by_point false w c e = number_fits w c e

cell_fits : (w : List ℕ) (c : Cell) → cell_of w ≡ Some c → IsOf32Bits c
unfolding cell_of
cell_fits w c e = by_point (bytes_eq w (codes ".")) w c e

-- ---- what the words of a text write

cells_alone : (cells : List Cell) (ws : List (List ℕ)) → AllZip IsWrittenAs (map cell cells) ws → All IsOf32Bits cells
cells_alone [] ws all = All-nil IsOf32Bits
cells_alone (c ∷ cells) [] all = absurd all
cells_alone (c ∷ cells) (w ∷ ws) all = All-cons IsOf32Bits c cells (cell_fits w c all.0) (cells_alone cells ws all.1)

pub cells_fit : (items : List Item) (cells : List Cell) (ws : List (List ℕ)) → AllZip IsWrittenAs (items ++ map cell cells) ws → All (λ c. FitsSigned w32 c.0) cells
cells_fit [] cells ws all = cells_alone cells ws all
cells_fit (i ∷ items) cells [] all = absurd all
cells_fit (i ∷ items) cells (w ∷ ws) all = cells_fit items cells ws all.1
