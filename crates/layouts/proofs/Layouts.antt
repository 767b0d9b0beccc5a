-- What the rules of a layout say of its numbers.
-- Used by the proofs of `check`, `new`, `rules_make_a_layout` and `tile_count`.
use Rattle.std.proofs.Common.{◌≡◌, ℕ, zero, suc, ◌+◌, ◌-◌, ◌*◌, ◌%◌, ◌<◌, ◌≤◌, ◌==◌, ◌&&◌, sum, map, add-one, nat_le, nat_lt, Bool, true, false, inl, inr, ◌⊎◌, List, [], ◌∷◌, length, slice_index, None, All, if◌then◌else◌, refl, sym, ap, ◌∙◌, arith}
use Rattle.std.specs.List.{range_with_len}
use Rattle.std.proofs.Math.Nat.{div-lt_iff_lt-mul, mod-one, mul-le-mul}
use Rattle.std.proofs.lemmas.Nat.{le-div}
use Rattle.std.proofs.lemmas.Bool.{and_parts, leb-true, lt-ltb, eqb-true}
use Rattle.std.proofs.Math.Dec.{eqb-suc-zero}
use Rattle.std.proofs.lemmas.List.Sums.{sum_by-cons}
use Rattle.std.proofs.lemmas.List.Elements.{All-cons, All-nil, All-head, All-tail}
use Rattle.layouts.specs.Chunks.{block_extents, block_count}
use Rattle.layouts.specs.declared.numbers.LayoutNumbers.{LayoutNumbers}
use Rattle.grids.specs.Tiles.{pieces_of, grid_of, AreMultiples, tile_count}
use Rattle.lists.specs.Numbers.{product}
use Rattle.lists.specs.Rules.{first_broken}
use Rattle.layouts.specs.Rules.{is_between, is_length, block_extent, nests, extent_rule, extent_rules, chunk_rule, chunk_rules, block_rule, block_rules, block_rules_of, MeetsRules, level_rules, rank_rules, cell_rules, chunk_cell_rules, coarse_rules, all_block_rules, layout_rules, coarsest_blocks, blocks_below, IsLayout, IsLength, AreLengths, HasBlocks}
use Rattle.grids.proofs.ThreeDimensions.{tiling-from}
use Rattle.lists.proofs.Rules.{GroupsKept, groups_of_kept, all_kept, kept_dimension, kept_at}

-- ---- three lengths

-- the same, of each element
pub all_lengths : (ns : List ℕ) → length ns ≡ 3 → AreLengths ns → All IsLength ns
all_lengths (a ∷ b ∷ c ∷ []) long h =
    All-cons IsLength a (b ∷ c ∷ []) (h 0 (omega arith))
    (All-cons IsLength b (c ∷ []) (h 1 (omega arith)) (All-cons IsLength c [] (h 2 (omega arith)) (All-nil IsLength)))
all_lengths ns long h = absurd (omega arith)

pub are_lengths : (ns : List ℕ) → length ns ≡ 3 → All IsLength ns → AreLengths ns
are_lengths ns long h d below = h d 0 (omega arith)

pub all_some : (ns : List ℕ) → length ns ≡ 3 → AreLengths ns → All (λ m. 1 ≤ m) ns
all_some ns long h k d below = (all_lengths ns long h k d below).0

-- ---- pieces

pub pieces_of-some : (n m : ℕ) → 1 ≤ n → 1 ≤ m → 1 ≤ pieces_of n m
pieces_of-some n m some long = le-div 1 (n + (m - 1)) m long (omega arith)

pub pieces_of-few : (n m : ℕ) → 1 ≤ n → 1 ≤ m → pieces_of n m ≤ n
pieces_of-few n m some long =
    let less : n + (m - 1) < (n + 1) * m = grind arith in
    let below : pieces_of n m < n + 1 = (div-lt_iff_lt-mul {k = m} {x = n + (m - 1)} {y = n + 1} (omega arith)).1 less in
    omega arith

pub grid_lengths : (extents lengths : List ℕ) → All IsLength extents → All IsLength lengths → All IsLength (grid_of extents lengths)
grid_lengths [] lengths he hl = All-nil IsLength
grid_lengths (n ∷ ns) [] he hl = All-nil IsLength
grid_lengths (n ∷ ns) (m ∷ ms) he hl =
    let first = All-head IsLength n ns he in
    let size = All-head IsLength m ms hl in
    let few = pieces_of-few n m first.0 size.0 in
    All-cons IsLength (pieces_of n m) (grid_of ns ms) (pieces_of-some n m first.0 size.0, omega arith)
    (grid_lengths ns ms (All-tail IsLength n ns he) (All-tail IsLength m ms hl))

-- there are at most as many tiles as cells, and at least one
pub tile_count-few : (extents lengths : List ℕ) → length extents ≡ length lengths → All IsLength extents → All IsLength lengths → tile_count extents lengths ≤ product extents
tile_count-few [] lengths same he hl = omega arith
tile_count-few (n ∷ ns) [] same he hl = absurd (omega arith)
tile_count-few (n ∷ ns) (m ∷ ms) same he hl =
    let first = All-head IsLength n ns he in
    let size = All-head IsLength m ms hl in
    mul-le-mul (pieces_of-few n m first.0 size.0) (tile_count-few ns ms (omega arith) (All-tail IsLength n ns he) (All-tail IsLength m ms hl))

pub tile_count-some : (extents lengths : List ℕ) → All IsLength extents → All IsLength lengths → 1 ≤ tile_count extents lengths
tile_count-some [] lengths he hl = omega arith
tile_count-some (n ∷ ns) [] he hl = omega arith
tile_count-some (n ∷ ns) (m ∷ ms) he hl =
    let first = All-head IsLength n ns he in
    let size = All-head IsLength m ms hl in
    mul-le-mul {n₁ = 1} {m₁ = 1} (pieces_of-some n m first.0 size.0) (tile_count-some ns ms (All-tail IsLength n ns he) (All-tail IsLength m ms hl))

-- ---- rules that are kept

length_good : (used : Bool) (most n : ℕ) → is_length used most n ≡ true → 1 ≤ most → (1 ≤ n) × (n ≤ most)
length_good true most n e some = let both = and_parts (nat_le 1 n) (nat_le n most) e in (leb-true 1 n both.0, leb-true n most both.1)
length_good false most n e some = let one = eqb-true n 1 e in (omega arith, omega arith)

pub extents_each : (l : LayoutNumbers) → first_broken (extent_rules l) ≡ None → AreLengths l.extents
extents_each l kept d below = length_good (nat_lt d l.rank) 1048576 (slice_index l.extents d) (kept_dimension (extent_rule l) d kept below) (omega arith)

pub chunk_each : (l : LayoutNumbers) → first_broken (extent_rules l) ≡ None → first_broken (chunk_rules l) ≡ None
    → (d : ℕ) → d < 3 → (1 ≤ slice_index l.chunk d) × (slice_index l.chunk d ≤ slice_index l.extents d)
chunk_each l extents kept d below =
    length_good (nat_lt d l.rank) (slice_index l.extents d) (slice_index l.chunk d) (kept_dimension (chunk_rule l) d kept below) (extents_each l extents d below).0

-- a block's extent in a level that is used: in a dimension that is used it nests, and in one that is not it is 1
record GoodBlock (used : Bool) (good : Bool) (n : ℕ) : Type 0 where
  pub some : 1 ≤ n
  pub few : n ≤ 1048576
  pub form : ((used ≡ true) × (good ≡ true)) ⊎ ((used ≡ false) × (n ≡ 1))

good_block : (used good : Bool) (n : ℕ) → (if used then is_between 1 1048576 n && good else n == 1) ≡ true → GoodBlock used good n
good_block true good n e =
    let both = and_parts (is_between 1 1048576 n) good e in
    let ends = and_parts (nat_le 1 n) (nat_le n 1048576) both.0 in
    record { some = leb-true 1 n ends.0; few = leb-true n 1048576 ends.1; form = inl (refl, both.1) }
good_block false good n e = let one = eqb-true n 1 e in record { some = omega arith; few = omega arith; form = inr (refl, one) }

unused_block : (used good : Bool) (n : ℕ) → GoodBlock used good n → used ≡ false → n ≡ 1
unused_block used good n h unused = elim h.form [ inl e ↦ absurd (cc) | inr e ↦ e.1 ]

used_level : (used : Bool) (b c : Bool) → (if used then b else c) ≡ true → used ≡ true → b ≡ true
used_level true b c e h = e
used_level false b c e h = absurd (cc)

block_good : (l : LayoutNumbers) → first_broken (block_rules l) ≡ None → (level d : ℕ) → level < 4 → level < l.levels → d < 3
    → GoodBlock (nat_lt d l.rank) (nests l level d) (block_extent l level d)
block_good l kept level d below used dim =
    let good = kept_dimension (block_rule l level) d (kept_at (block_rules_of l) 4 level kept below) dim in
    let n = block_extent l level d in
    good_block (nat_lt d l.rank) (nests l level d) n
    (used_level (nat_lt level l.levels) (if nat_lt d l.rank then is_between 1 1048576 n && nests l level d else n == 1) (n == 0) good (lt-ltb level l.levels used))

pub has_blocks : (l : LayoutNumbers) → first_broken (block_rules l) ≡ None → l.levels ≤ 4 → HasBlocks l
has_blocks l kept few level used d below = let good = block_good l kept level d (omega arith) used below in (good.some, good.few)

pub chunk_are_lengths : (l : LayoutNumbers) → first_broken (extent_rules l) ≡ None → first_broken (chunk_rules l) ≡ None → AreLengths l.chunk
chunk_are_lengths l extents kept d below =
    let chunk = chunk_each l extents kept d below in
    let most = extents_each l extents d below in (chunk.0, omega arith)

pub levels_bounds : (l : LayoutNumbers) → first_broken (level_rules l) ≡ None → (1 ≤ l.levels) × (l.levels ≤ 4)
levels_bounds l kept =
    let one = all_kept (level_rules l) kept in
    let both = and_parts (nat_le 1 l.levels) (nat_le l.levels 4) one.0 in (leb-true 1 l.levels both.0, leb-true l.levels 4 both.1)

-- ---- what callers need

-- three numbers are multiples of three others
multiples_of : (ns ms : List ℕ) → length ns ≡ 3 → length ms ≡ 3 → ((d : ℕ) → d < 3 → slice_index ns d % slice_index ms d ≡ 0) → AreMultiples ns ms
multiples_of (n ∷ n2 ∷ n3 ∷ []) (m ∷ m2 ∷ m3 ∷ []) long long_too h = (h 0 (omega arith), (h 1 (omega arith), (h 2 (omega arith), tt)))
multiples_of ns ms long long_too h = absurd (omega arith)

-- what is divided by 1 leaves nothing
nothing_left : (n m : ℕ) (test : Bool) → test ≡ (n % m == 0) → (test ≡ true) ⊎ (m ≡ 1) → n % m ≡ 0
nothing_left n m test is_test (inl e) = eqb-true (n % m) 0 (sym is_test ∙ e)
nothing_left n m test is_test (inr one) = ap (λ k. n % k) one ∙ mod-one n

chunk_divided : (l : LayoutNumbers) → first_broken (block_rules l) ≡ None → 1 ≤ l.levels → (d : ℕ) → d < 3 → slice_index l.chunk d % block_extent l 0 d ≡ 0
chunk_divided l kept some d dim =
    elim (block_good l kept 0 d (omega arith) some dim).form [
      | inl e ↦ nothing_left (slice_index l.chunk d) (block_extent l 0 d) (nests l 0 d) refl (inl e.1)
      | inr e ↦ nothing_left (slice_index l.chunk d) (block_extent l 0 d) (nests l 0 d) refl (inr e.1)
    ]

-- the test of a level above another
nests_above : (l : LayoutNumbers) (level d : ℕ) → nests l (level + 1) d ≡ (block_extent l (level + 1) d % block_extent l level d == 0)
nests_above l level d = let pred : suc level - 1 ≡ level = omega arith in let some = eqb-suc-zero level in rw (add-one, some, pred) refl

block_multiple : (l : LayoutNumbers) → first_broken (block_rules l) ≡ None → l.levels ≤ 4 → (level d : ℕ) → level + 1 < l.levels → d < 3
    → block_extent l (level + 1) d % block_extent l level d ≡ 0
block_multiple l kept few level d used dim =
    let below : (used : nat_lt d l.rank ≡ false) → block_extent l level d ≡ 1 = unused_block (nat_lt d l.rank) (nests l level d) (block_extent l level d) (block_good l kept level d (omega arith) (omega arith) dim) in
    elim (block_good l kept (level + 1) d (omega arith) used dim).form [
      | inl e ↦ nothing_left (block_extent l (level + 1) d) (block_extent l level d) (nests l (level + 1) d) (nests_above l level d) (inl e.1)
      | inr e ↦ nothing_left (block_extent l (level + 1) d) (block_extent l level d) (nests l (level + 1) d) (nests_above l level d) (inr (below e.0))
    ]

-- a sum is no less than each of its parts
sum_each : (f : ℕ → ℕ) (n a k : ℕ) → k < n → f (a + k) ≤ sum (map f (range_with_len a n))
sum_each f zero a k below = absurd (omega arith)
sum_each f (suc n) a zero below =
    let here : a + 0 ≡ a = omega arith in
    let all = sum_by-cons (λ x. x) (f a) (map f (range_with_len (a + 1) n)) in rw here (omega (arith, all))
sum_each f (suc n) a (suc k) below =
    let there : a + suc k ≡ a + 1 + k = omega arith in
    let rest = sum_each f n (a + 1) k (omega arith) in
    let all = sum_by-cons (λ x. x) (f a) (map f (range_with_len (a + 1) n)) in rw there (omega (arith, rest, all))

layout_groups : (l : LayoutNumbers) → first_broken (layout_rules l) ≡ None
    → GroupsKept (rank_rules l ∷ extent_rules l ∷ cell_rules l ∷ chunk_rules l ∷ chunk_cell_rules l ∷ level_rules l ∷ block_rules l ∷ coarse_rules l ∷ all_block_rules l ∷ [])
layout_groups l kept =
    groups_of_kept (rank_rules l ∷ extent_rules l ∷ cell_rules l ∷ chunk_rules l ∷ chunk_cell_rules l ∷ level_rules l ∷ block_rules l ∷ coarse_rules l ∷ all_block_rules l ∷ []) kept

rank_bounds : (l : LayoutNumbers) → first_broken (rank_rules l) ≡ None → (1 ≤ l.rank) × (l.rank ≤ 3)
rank_bounds l kept =
    let both = and_parts (nat_le 1 l.rank) (nat_le l.rank 3) (all_kept (rank_rules l) kept).0 in (leb-true 1 l.rank both.0, leb-true l.rank 3 both.1)

pub layout_facts : (l : LayoutNumbers) → length l.extents ≡ 3 → length l.chunk ≡ 3 → length l.blocks ≡ 4 → All (λ b. length b ≡ 3) l.blocks → first_broken (layout_rules l) ≡ None → MeetsRules l
layout_facts l extents_long chunk_long four each_long kept =
    let g = layout_groups l kept in
    let rank = rank_bounds l g.0 in
    let extents = extents_each l g.1.0 in
    let cells = leb-true (product l.extents) 67108864 (all_kept (cell_rules l) g.1.1.0).0 in
    let chunk = chunk_are_lengths l g.1.0 g.1.1.1.0 in
    let levels = levels_bounds l g.1.1.1.1.1.0 in
    let blocks = has_blocks l g.1.1.1.1.1.1.0 levels.1 in
    let long : (level : ℕ) → level < l.levels → length (block_extents l level) ≡ 3 = λ level used. each_long level [] (omega arith) in
    let all = leb-true (blocks_below l l.levels) 2097152 (all_kept (all_block_rules l) g.1.1.1.1.1.1.1.1.0).0 in
    let in_all = all_lengths l.extents extents_long extents in
    let in_chunk = all_lengths l.chunk chunk_long chunk in
    let chunks = tile_count-few l.extents l.chunk (extents_long ∙ sym chunk_long) in_all in_chunk in
    record {
      rank_some = rank.0;
      rank_few = rank.1;
      extents = extents;
      cells = cells;
      chunk = chunk;
      chunk_within = λ d below. (chunk_each l g.1.0 g.1.1.1.0 d below).1;
      chunk_cells = leb-true (product l.chunk) 65536 (all_kept (chunk_cell_rules l) g.1.1.1.1.0).0;
      chunk_some = all_some l.chunk chunk_long chunk;
      chunk_tiles = tiling-from l.extents l.chunk (extents_long ∙ sym chunk_long) (all_some l.chunk chunk_long chunk);
      chunks_some = tile_count-some l.extents l.chunk in_all in_chunk;
      chunks_few = omega (arith, chunks, cells);
      levels_some = levels.0;
      levels_few = levels.1;
      blocks = blocks;
      block_long = long;
      block_some = λ level used. all_some (block_extents l level) (long level used) (blocks level used);
      block_tiles = λ level used. tiling-from l.extents (block_extents l level) (extents_long ∙ sym (long level used)) (all_some (block_extents l level) (long level used) (blocks level used));
      chunk_divided = multiples_of l.chunk (block_extents l 0) chunk_long (long 0 levels.0) (chunk_divided l g.1.1.1.1.1.1.0 levels.0);
      block_multiples = λ level used. multiples_of (block_extents l (level + 1)) (block_extents l level) (long (level + 1) used) (long level (omega arith)) (λ d dim. block_multiple l g.1.1.1.1.1.1.0 levels.1 level d used dim);
      coarsest_few = leb-true (coarsest_blocks l) 4096 (all_kept (coarse_rules l) g.1.1.1.1.1.1.1.0).0;
      all_few = all;
      blocks_some = λ level used. tile_count-some l.extents (block_extents l level) in_all (all_lengths (block_extents l level) (long level used) (blocks level used));
      blocks_few = λ level used. let part = sum_each (block_count l) l.levels 0 level used in let here : 0 + level ≡ level = omega arith in let e : block_count l (0 + level) ≡ block_count l level = ap (block_count l) here in omega (arith, part, e, all);
    }

pub levels_few : (l : LayoutNumbers) → first_broken (layout_rules l) ≡ None → l.levels ≤ 4
levels_few l kept = (levels_bounds l (layout_groups l kept).1.1.1.1.1.0).1

-- a layout, by its rules
pub is_layout : (l : LayoutNumbers) → length l.extents ≡ 3 → length l.chunk ≡ 3 → length l.blocks ≡ 4 → All (λ b. length b ≡ 3) l.blocks → first_broken (layout_rules l) ≡ None → IsLayout l
is_layout l extents chunk four each kept = record { extents = extents; chunk = chunk; levels = four; blocks = each; rules = kept; facts = layout_facts l extents chunk four each kept }
