-- The rules that a layout keeps, in their order, each with the refusal of a layout that breaks it.
-- Used by `chunk_copies`, `array_text`, `array_file` and `chunk_store`, and in this crate.
use Rattle.std.specs.Prelude.{◌≡◌, ℕ, ◌+◌, ◌<◌, ◌≤◌, ◌-◌, ◌%◌, ◌==◌, ◌&&◌, nat_le, nat_lt, Bool, All, List, [], ◌∷◌, ◌++◌, map, sum, length, slice_index, None, if◌then◌else◌}
use Rattle.std.specs.List.{flat_map, range_with_len}
use Rattle.lists.specs.Numbers.{product}
use Rattle.lists.specs.Rules.{Rule, first_broken}
use Rattle.grids.specs.Tiles.{IsTiling, AreMultiples}
use Rattle.layouts.specs.Chunks.{block_extents, block_count, chunk_count}
use Rattle.layouts.specs.declared.numbers.LayoutNumbers.{LayoutNumbers}
use Rattle.layouts.specs.declared.refusal.LayoutRefusal.{LayoutRefusal}
use Rattle.layouts.specs.declared.refusal.LayoutRefusal.TheVariants.{Rank, Extent, TooManyCells, ChunkExtent, ChunkTooLarge, Levels, LevelExtent, CoarseGridTooLarge, TooManyBlocks}

-- a rule of a layout
abbrev pub LayoutRule : Type 0
LayoutRule = Rule LayoutRefusal

-- the number lies from low up to and including high
abbrev pub is_between : ℕ → ℕ → ℕ → Bool
is_between low high n = nat_le low n && nat_le n high

-- the dimensions
abbrev pub dimensions : List ℕ
dimensions = 0 ∷ 1 ∷ 2 ∷ []

-- a length is from 1 to the most in a dimension that is used, and 1 in a dimension that is not
abbrev pub is_length : Bool → ℕ → ℕ → Bool
is_length used most n = if used then is_between 1 most n else n == 1

-- ---- the array

abbrev pub rank_rules : LayoutNumbers → List LayoutRule
rank_rules l = (is_between 1 3 l.rank, Rank l.rank) ∷ []

-- an extent is at most 2^20
abbrev pub extent_rule : LayoutNumbers → ℕ → LayoutRule
extent_rule l d = (is_length (nat_lt d l.rank) 1048576 (slice_index l.extents d), Extent d)

abbrev pub extent_rules : LayoutNumbers → List LayoutRule
extent_rules l = map (extent_rule l) dimensions

abbrev pub cell_rules : LayoutNumbers → List LayoutRule
cell_rules l = (nat_le (product l.extents) 67108864, TooManyCells) ∷ []

-- ---- its chunks

-- a chunk's extent is at most the array's
abbrev pub chunk_rule : LayoutNumbers → ℕ → LayoutRule
chunk_rule l d = (is_length (nat_lt d l.rank) (slice_index l.extents d) (slice_index l.chunk d), ChunkExtent d)

abbrev pub chunk_rules : LayoutNumbers → List LayoutRule
chunk_rules l = map (chunk_rule l) dimensions

abbrev pub chunk_cell_rules : LayoutNumbers → List LayoutRule
chunk_cell_rules l = (nat_le (product l.chunk) 65536, ChunkTooLarge) ∷ []

-- ---- its levels of blocks

abbrev pub level_rules : LayoutNumbers → List LayoutRule
level_rules l = (is_between 1 4 l.levels, Levels l.levels) ∷ []

-- the block extent of a level in a dimension
abbrev pub block_extent : LayoutNumbers → ℕ → ℕ → ℕ
block_extent l level d = slice_index (block_extents l level) d

-- at level 0, a block's extent divides the chunk's. At a higher level, it is a multiple of the extent one level below
abbrev pub nests : LayoutNumbers → ℕ → ℕ → Bool
nests l level d = if level == 0 then slice_index l.chunk d % block_extent l 0 d == 0 else block_extent l level d % block_extent l (level - 1) d == 0

-- in a level that is used, a block's extent is from 1 to 2^20 and nests, or is 1 in a dimension that is not used. In a level that is not used, it is 0
abbrev pub block_is_good : LayoutNumbers → ℕ → ℕ → Bool
block_is_good l level d =
    let n = block_extent l level d in
    if nat_lt level l.levels then if nat_lt d l.rank then is_between 1 1048576 n && nests l level d else n == 1 else n == 0

abbrev pub block_rule : LayoutNumbers → ℕ → ℕ → LayoutRule
block_rule l level d = (block_is_good l level d, LevelExtent level d)

-- the rules of one level
abbrev pub block_rules_of : LayoutNumbers → ℕ → List LayoutRule
block_rules_of l level = map (block_rule l level) dimensions

abbrev pub block_rules : LayoutNumbers → List LayoutRule
block_rules l = flat_map (block_rules_of l) (range_with_len 0 4)

-- how many blocks the last used level has
abbrev pub coarsest_blocks : LayoutNumbers → ℕ
coarsest_blocks l = block_count l (l.levels - 1)

abbrev pub coarse_rules : LayoutNumbers → List LayoutRule
coarse_rules l = (nat_le (coarsest_blocks l) 4096, CoarseGridTooLarge (coarsest_blocks l)) ∷ []

-- how many blocks the first levels have together
abbrev pub blocks_below : LayoutNumbers → ℕ → ℕ
blocks_below l levels = sum (map (block_count l) (range_with_len 0 levels))

abbrev pub all_block_rules : LayoutNumbers → List LayoutRule
all_block_rules l = (nat_le (blocks_below l l.levels) 2097152, TooManyBlocks) ∷ []

-- ---- all of them

-- the rules of a layout
abbrev pub layout_rules : LayoutNumbers → List LayoutRule
layout_rules l =
    rank_rules l ++ extent_rules l ++ cell_rules l
    ++ chunk_rules l ++ chunk_cell_rules l
    ++ level_rules l ++ block_rules l ++ coarse_rules l ++ all_block_rules l

-- a number from 1 to 2^20
abbrev pub IsLength : ℕ → Type 0
IsLength n = (1 ≤ n) × (n ≤ 1048576)

-- each of three numbers is from 1 to 2^20
abbrev pub AreLengths : List ℕ → Type 0
AreLengths ns = (d : ℕ) → d < 3 → IsLength (slice_index ns d)

-- each block extent of each used level is from 1 to 2^20
abbrev pub HasBlocks : LayoutNumbers → Type 0
HasBlocks l = (level : ℕ) → level < l.levels → AreLengths (block_extents l level)

-- what the rules of a layout say about its numbers
pub record MeetsRules (l : LayoutNumbers) : Type 0 where
  pub rank_some : 1 ≤ l.rank
  pub rank_few : l.rank ≤ 3
  pub extents : AreLengths l.extents
  pub cells : product l.extents ≤ 67108864
  pub chunk : AreLengths l.chunk
  pub chunk_within : (d : ℕ) → d < 3 → slice_index l.chunk d ≤ slice_index l.extents d
  pub chunk_cells : product l.chunk ≤ 65536
  pub chunk_some : All (λ m. 1 ≤ m) l.chunk
  pub chunk_tiles : IsTiling l.extents l.chunk
  pub chunks_some : 1 ≤ chunk_count l
  pub chunks_few : chunk_count l ≤ 67108864
  pub levels_some : 1 ≤ l.levels
  pub levels_few : l.levels ≤ 4
  pub blocks : HasBlocks l
  pub block_long : (level : ℕ) → level < l.levels → length (block_extents l level) ≡ 3
  pub block_some : (level : ℕ) → level < l.levels → All (λ m. 1 ≤ m) (block_extents l level)
  pub block_tiles : (level : ℕ) → level < l.levels → IsTiling l.extents (block_extents l level)
  pub chunk_divided : AreMultiples l.chunk (block_extents l 0)
  pub block_multiples : (level : ℕ) → level + 1 < l.levels → AreMultiples (block_extents l (level + 1)) (block_extents l level)
  pub coarsest_few : coarsest_blocks l ≤ 4096
  pub all_few : blocks_below l l.levels ≤ 2097152
  pub blocks_some : (level : ℕ) → level < l.levels → 1 ≤ block_count l level
  pub blocks_few : (level : ℕ) → level < l.levels → block_count l level ≤ 2097152

-- a layout has three dimensions, four levels, and keeps every rule. By the law `rules_make_a_layout`, these three imply `facts`
pub record IsLayout (l : LayoutNumbers) : Type 0 where
  pub extents : length l.extents ≡ 3
  pub chunk : length l.chunk ≡ 3
  pub levels : length l.blocks ≡ 4
  pub blocks : All (λ b. length b ≡ 3) l.blocks
  pub rules : first_broken (layout_rules l) ≡ None
  pub facts : MeetsRules l
