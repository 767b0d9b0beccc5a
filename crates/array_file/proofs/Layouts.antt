-- A layout that keeps its rules, number by number.
-- Used by the proofs of `Headers` and `numbers_of`.
use Rattle.std.proofs.Common.{◌≡◌, ℕ, ◌+◌, ◌^◌, ◌<◌, ◌≤◌, ◌==◌, ◌&&◌, nat_le, nat_lt, Bool, true, false, List, [], ◌∷◌, length, slice_index, slice_index_or, if◌then◌else◌, refl, ◌∙◌, arith}
use Rattle.std.proofs.lemmas.Bool.{and_parts, leb-true, eqb-true}
use Rattle.layouts.specs.declared.numbers.LayoutNumbers.{LayoutNumbers}
use Rattle.layouts.specs.Chunks.{block_extents}
use Rattle.layouts.specs.Rules.{IsLayout, layout_rules, is_between, block_extent, block_is_good, nests}
use Rattle.array_file.specs.Header.{layout_numbers}
use Rattle.array_file.proofs.Numbers.{AreWords}
use Rattle.lists.proofs.Rules.{all_kept}

-- ---- lists of three and of four

pub three_items : (xs : List ℕ) → length xs ≡ 3 → xs ≡ slice_index xs 0 ∷ slice_index xs 1 ∷ slice_index xs 2 ∷ []
three_items [] long = absurd (omega arith)
three_items (x ∷ []) long = absurd (omega arith)
three_items (x ∷ y ∷ []) long = absurd (omega arith)
three_items (x ∷ y ∷ z ∷ []) long = refl
three_items (x ∷ y ∷ z ∷ w ∷ xs) long = absurd (omega arith)

four_lists : (bs : List (List ℕ)) → length bs ≡ 4
    → bs ≡ slice_index_or bs 0 [] ∷ slice_index_or bs 1 [] ∷ slice_index_or bs 2 [] ∷ slice_index_or bs 3 [] ∷ []
four_lists [] long = absurd (omega arith)
four_lists (a ∷ []) long = absurd (omega arith)
four_lists (a ∷ b ∷ []) long = absurd (omega arith)
four_lists (a ∷ b ∷ c ∷ []) long = absurd (omega arith)
four_lists (a ∷ b ∷ c ∷ d ∷ []) long = refl
four_lists (a ∷ b ∷ c ∷ d ∷ e ∷ bs) long = absurd (omega arith)

-- ---- the numbers of a layout

-- three numbers by their places
abbrev pub three : (ℕ → ℕ) → List ℕ
three f = f 0 ∷ f 1 ∷ f 2 ∷ []

-- a layout, number by number
abbrev pub spelled : LayoutNumbers → LayoutNumbers
spelled l = record {
  rank = l.rank;
  extents = three (slice_index l.extents);
  chunk = three (slice_index l.chunk);
  levels = l.levels;
  blocks = three (block_extent l 0) ∷ three (block_extent l 1) ∷ three (block_extent l 2) ∷ three (block_extent l 3) ∷ [];
}

pub spelled_is : (l : LayoutNumbers) → IsLayout l → l ≡ spelled l
spelled_is l h =
    let extents = three_items l.extents h.extents in
    let chunk = three_items l.chunk h.chunk in
    let all = four_lists l.blocks h.levels in
    let block : (k : ℕ) → k < 4 → block_extents l k ≡ three (block_extent l k) = λ k below. three_items (block_extents l k) (h.blocks k [] (omega (arith, h.levels))) in
    let blocks : l.blocks ≡ (spelled l).blocks = all ∙ (λ i. block 0 (omega arith) i ∷ block 1 (omega arith) i ∷ block 2 (omega arith) i ∷ block 3 (omega arith) i ∷ []) in
    λ i. record { rank = l.rank; extents = extents i; chunk = chunk i; levels = l.levels; blocks = blocks i }

-- ---- what its rules say of a number

-- an extent of the array or of a chunk is at most `most`, or it is 1
few_or_one : (used : Bool) (most n : ℕ) → (if used then is_between 1 most n else n == 1) ≡ true → n ≤ most + 1
few_or_one true most n e = let few = leb-true n most (and_parts (nat_le 1 n) (nat_le n most) e).1 in omega arith
few_or_one false most n e = let one = eqb-true n 1 e in omega arith

-- a block's extent is at most 2^20, or it is 1 or 0
few_or_none : (level used nests : Bool) (n : ℕ) → (if level then if used then is_between 1 1048576 n && nests else n == 1 else n == 0) ≡ true → n ≤ 1048577
few_or_none true true nests n e = few_or_one true 1048576 n (and_parts (is_between 1 1048576 n) nests e).0
few_or_none true false nests n e = few_or_one false 1048576 n e
few_or_none false used nests n e = let none = eqb-true n 0 e in omega arith

-- it is 1 in a dimension that is not used
one_unused : (used : Bool) (most n : ℕ) → used ≡ false → (if used then is_between 1 most n else n == 1) ≡ true → n ≡ 1
one_unused true most n unused e = absurd (cc)
one_unused false most n unused e = eqb-true n 1 e

block_one_unused : (level used nests : Bool) (n : ℕ) → level ≡ true → used ≡ false → (if level then if used then is_between 1 1048576 n && nests else n == 1 else n == 0) ≡ true → n ≡ 1
block_one_unused true true nests n is_level unused e = absurd (cc)
block_one_unused true false nests n is_level unused e = eqb-true n 1 e
block_one_unused false used nests n is_level unused e = absurd (cc)

-- and 0 in a level that is not used
none_unused : (level used nests : Bool) (n : ℕ) → level ≡ false → (if level then if used then is_between 1 1048576 n && nests else n == 1 else n == 0) ≡ true → n ≡ 0
none_unused true used nests n unused e = absurd (cc)
none_unused false used nests n unused e = eqb-true n 0 e

-- ---- all its numbers

-- each of them fits four bytes
pub words : (l : LayoutNumbers) → IsLayout l → AreWords (layout_numbers (spelled l))
words l h =
    let k = all_kept (layout_rules l) h.rules in
    let rank = leb-true l.rank 3 (and_parts (nat_le 1 l.rank) (nat_le l.rank 3) k.0).1 in
    let e = few_or_one (nat_lt 0 l.rank) 1048576 (slice_index l.extents 0) k.1.0 in
    let e_2 = few_or_one (nat_lt 1 l.rank) 1048576 (slice_index l.extents 1) k.1.1.0 in
    let e_3 = few_or_one (nat_lt 2 l.rank) 1048576 (slice_index l.extents 2) k.1.1.1.0 in
    let c = few_or_one (nat_lt 0 l.rank) (slice_index l.extents 0) (slice_index l.chunk 0) k.1.1.1.1.1.0 in
    let c_2 = few_or_one (nat_lt 1 l.rank) (slice_index l.extents 1) (slice_index l.chunk 1) k.1.1.1.1.1.1.0 in
    let c_3 = few_or_one (nat_lt 2 l.rank) (slice_index l.extents 2) (slice_index l.chunk 2) k.1.1.1.1.1.1.1.0 in
    let levels = leb-true l.levels 4 (and_parts (nat_le 1 l.levels) (nat_le l.levels 4) k.1.1.1.1.1.1.1.1.1.0).1 in
    let b : (level d : ℕ) → block_is_good l level d ≡ true → block_extent l level d < 256 ^ 4 =
    λ level d good. let few = few_or_none (nat_lt level l.levels) (nat_lt d l.rank) (nests l level d) (block_extent l level d) good in omega arith in
    let bs = k.1.1.1.1.1.1.1.1.1.1 in (
      omega arith,
      (
        omega arith,
        (
          omega arith,
          (
            omega arith,
            (
              omega arith,
              (
                omega arith,
                (
                  omega arith,
                  (
                    omega arith,
                    (
                      omega arith,
                      (
                        b 0 0 bs.0,
                        (
                          b 0 1 bs.1.0,
                          (
                            b 0 2 bs.1.1.0,
                            (
                              b 1 0 bs.1.1.1.0,
                              (
                                b 1 1 bs.1.1.1.1.0,
                                (
                                  b 1 2 bs.1.1.1.1.1.0,
                                  (
                                    b 2 0 bs.1.1.1.1.1.1.0,
                                    (
                                      b 2 1 bs.1.1.1.1.1.1.1.0,
                                      (
                                        b 2 2 bs.1.1.1.1.1.1.1.1.0,
                                        (b 3 0 bs.1.1.1.1.1.1.1.1.1.0, (b 3 1 bs.1.1.1.1.1.1.1.1.1.1.0, (b 3 2 bs.1.1.1.1.1.1.1.1.1.1.1.0, tt))),
                                      ),
                                    ),
                                  ),
                                ),
                              ),
                            ),
                          ),
                        ),
                      ),
                    ),
                  ),
                ),
              ),
            ),
          ),
        ),
      ),
    )
