-- What the rules of a layout say about the numbers that a text does not write.
-- Used by the proofs of `PlainTexts`, `ReadLayouts` and `StatedLayouts`.
use Rattle.std.proofs.Common.{◌≡◌, ℕ, zero, suc, ◌+◌, ◌-◌, ◌<◌, ◌≤◌, ◌&&◌, ◌==◌, nat_lt, Bool, true, false, cond, List, [], ◌∷◌, ◌++◌, length, get_or, take, drop, replicate, None, All, refl, ap, sym, subst, ◌∙◌, arith}
use Rattle.std.specs.Prelude.{slice_index}
use Rattle.std.proofs.lemmas.Bool.{le-ltb, lt-ltb, eqb-true}
use Rattle.std.proofs.lemmas.List.{take-append-drop, get_or-drop, length-drop, length-take-le, get_or-take}
use Rattle.std.proofs.lemmas.List.Elements.{All-head, All-tail, All-from_get_or, All-get_or}
use Rattle.lists.specs.Rules.{first_broken}
use Rattle.lists.proofs.Rules.{first_kept, second_kept, kept_at, kept_dimension}
use Rattle.lists.proofs.Short.{three_items}
use Rattle.layouts.specs.Chunks.{block_extents}
use Rattle.layouts.specs.declared.numbers.LayoutNumbers.{LayoutNumbers}
use Rattle.layouts.specs.Rules.{LayoutRule, is_between, is_length, rank_rules, extent_rule, extent_rules, cell_rules, chunk_rule, chunk_rules, chunk_cell_rules, level_rules, block_extent, nests, block_is_good, block_rule, block_rules, block_rules_of, coarse_rules, all_block_rules, IsLayout}

-- three numbers, 1 in each dimension that is not used
pub record AreNumbers (rank : ℕ) (ns : List ℕ) : Type 0 where
  pub three : length ns ≡ 3
  pub unused : (d : ℕ) → rank ≤ d → d < 3 → slice_index ns d ≡ 1

-- ---- groups of rules

abbrev from_blocks : LayoutNumbers → List LayoutRule
from_blocks l = block_rules l ++ coarse_rules l ++ all_block_rules l

abbrev from_chunks : LayoutNumbers → List LayoutRule
from_chunks l = chunk_rules l ++ chunk_cell_rules l ++ level_rules l ++ from_blocks l

abbrev from_extents : LayoutNumbers → List LayoutRule
from_extents l = extent_rules l ++ cell_rules l ++ from_chunks l

extents_kept : (l : LayoutNumbers) → IsLayout l → first_broken (from_extents l) ≡ None
extents_kept l is = second_kept (rank_rules l) (from_extents l) is.rules

chunks_kept : (l : LayoutNumbers) → IsLayout l → first_broken (from_chunks l) ≡ None
chunks_kept l is = second_kept (cell_rules l) (from_chunks l) (second_kept (extent_rules l) (cell_rules l ++ from_chunks l) (extents_kept l is))

blocks_kept : (l : LayoutNumbers) → IsLayout l → first_broken (from_blocks l) ≡ None
blocks_kept l is =
    second_kept (level_rules l) (from_blocks l)
    (second_kept (chunk_cell_rules l) (level_rules l ++ from_blocks l)
    (second_kept (chunk_rules l) (chunk_cell_rules l ++ level_rules l ++ from_blocks l) (chunks_kept l is)))

-- ---- the extents of the array and of a chunk

is_one : (used : Bool) (most n : ℕ) → used ≡ false → is_length used most n ≡ true → n ≡ 1
is_one used most n unused good = eqb-true n 1 (sym (ap (λ b. is_length b most n) unused) ∙ good)

pub extents_numbers : (l : LayoutNumbers) → IsLayout l → AreNumbers l.rank l.extents
extents_numbers l is = record {
  three = is.extents;
  unused = λ d past below.
      is_one (nat_lt d l.rank) 1048576 (slice_index l.extents d) (le-ltb d l.rank past)
      (kept_dimension (extent_rule l) d (first_kept (extent_rules l) (cell_rules l ++ from_chunks l) (extents_kept l is)) below);
}

pub chunk_numbers : (l : LayoutNumbers) → IsLayout l → AreNumbers l.rank l.chunk
chunk_numbers l is = record {
  three = is.chunk;
  unused = λ d past below.
      is_one (nat_lt d l.rank) (slice_index l.extents d) (slice_index l.chunk d) (le-ltb d l.rank past)
      (kept_dimension (chunk_rule l) d (first_kept (chunk_rules l) (chunk_cell_rules l ++ level_rules l ++ from_blocks l) (chunks_kept l is)) below);
}

-- ---- the blocks

block_kept : (l : LayoutNumbers) (level d : ℕ) → IsLayout l → level < 4 → d < 3 → block_is_good l level d ≡ true
block_kept l level d is low below =
    kept_dimension (block_rule l level) d
    (kept_at (block_rules_of l) 4 level (first_kept (block_rules l) (coarse_rules l ++ all_block_rules l) (blocks_kept l is)) low) below

used_block : (used inside good : Bool) (n : ℕ) → used ≡ true → inside ≡ false → cond used (cond inside good (n == 1)) (n == 0) ≡ true → n ≡ 1
used_block used inside good n is out e =
    eqb-true n 1 (sym (ap (λ b. cond b (cond inside good (n == 1)) (n == 0)) is ∙ ap (λ b. cond b good (n == 1)) out) ∙ e)

unused_block : (used inside good : Bool) (n : ℕ) → used ≡ false → cond used (cond inside good (n == 1)) (n == 0) ≡ true → n ≡ 0
unused_block used inside good n unused e = eqb-true n 0 (sym (ap (λ b. cond b (cond inside good (n == 1)) (n == 0)) unused) ∙ e)

-- in a level that is used
pub level_numbers : (l : LayoutNumbers) (level : ℕ) → IsLayout l → level < l.levels → AreNumbers l.rank (block_extents l level)
level_numbers l level is used =
    let low : level < 4 = omega (arith, is.facts.levels_few) in
    record {
      three = All-get_or (λ b. length b ≡ 3) l.blocks level [] (omega (arith, is.levels, low)) is.blocks;
      unused = λ d past below.
          used_block (nat_lt level l.levels) (nat_lt d l.rank) (is_between 1 1048576 (block_extent l level d) && nests l level d) (block_extent l level d)
          (lt-ltb level l.levels used) (le-ltb d l.rank past) (block_kept l level d is low below);
    }

-- in a level that is not used
abbrev pub no_block : List ℕ
no_block = 0 ∷ 0 ∷ 0 ∷ []

no_level : (l : LayoutNumbers) (level : ℕ) → IsLayout l → l.levels ≤ level → level < 4 → block_extents l level ≡ no_block
no_level l level is past low =
    let zeros = λ (d : ℕ) (below : d < 3). unused_block (nat_lt level l.levels) (nat_lt d l.rank) (is_between 1 1048576 (block_extent l level d) && nests l level d) (block_extent l level d)
    (le-ltb level l.levels past) (block_kept l level d is low below) in
    three_items (block_extents l level) 0 (All-get_or (λ b. length b ≡ 3) l.blocks level [] (omega (arith, is.levels, low)) is.blocks)
    ∙ ap (λ n. n ∷ get_or (block_extents l level) 1 0 ∷ get_or (block_extents l level) 2 0 ∷ []) (zeros 0 (omega arith))
    ∙ ap (λ n. 0 ∷ n ∷ get_or (block_extents l level) 2 0 ∷ []) (zeros 1 (omega arith))
    ∙ ap (λ n. 0 ∷ 0 ∷ n ∷ []) (zeros 2 (omega arith))

all_same : {X : Type 0} (xs : List X) (n : ℕ) (x : X) → length xs ≡ n → All (λ y. y ≡ x) xs → xs ≡ replicate n x
all_same [] zero x long all = refl
all_same [] (suc n) x long all = absurd (omega arith)
all_same (y ∷ ys) zero x long all = absurd (omega arith)
all_same (y ∷ ys) (suc n) x long all =
    ap (λ z. z ∷ ys) (All-head (λ z. z ≡ x) y ys all) ∙ ap (λ zs. x ∷ zs) (all_same ys n x (omega arith) (All-tail (λ z. z ≡ x) y ys all))

-- the levels that are used, and then those that are not
pub levels_split : (l : LayoutNumbers) → IsLayout l → l.blocks ≡ take l.levels l.blocks ++ replicate (4 - l.levels) no_block
levels_split l is =
    let left : length (drop l.levels l.blocks) ≡ 4 - l.levels = length-drop l.levels l.blocks ∙ ap (λ n. n - l.levels) is.levels in
    let none = All-from_get_or (λ b. b ≡ no_block) (drop l.levels l.blocks) []
    (λ i below. get_or-drop l.levels l.blocks i [] ∙ no_level l (l.levels + i) is (omega arith) (omega (arith, left, below))) in
    sym (take-append-drop l.levels l.blocks) ∙ ap (λ bs. take l.levels l.blocks ++ bs) (all_same (drop l.levels l.blocks) (4 - l.levels) no_block left none)

pub levels_taken : (l : LayoutNumbers) → IsLayout l → length (take l.levels l.blocks) ≡ l.levels
levels_taken l is = length-take-le l.levels l.blocks (omega (arith, is.levels, is.facts.levels_few))

pub levels_numbers : (l : LayoutNumbers) → IsLayout l → All (AreNumbers l.rank) (take l.levels l.blocks)
levels_numbers l is =
    All-from_get_or (AreNumbers l.rank) (take l.levels l.blocks) []
    (λ i below. let used : i < l.levels = omega (arith, below, levels_taken l is) in
    subst (AreNumbers l.rank) (sym (get_or-take l.levels l.blocks i [] used)) (level_numbers l i is used))
