-- Words that stand for a layout are read as that layout.
-- Used by the proofs of `ReadLayouts` and `StatedArrays`.
use Rattle.std.proofs.Common.{◌≡◌, ℕ, zero, suc, ◌+◌, ◌-◌, ◌≤◌, nat_le, true, false, cond, List, [], ◌∷◌, ◌++◌, length, get_or, map, take, replicate, Some, None, Ok, Err, All, codes, slice_set, refl, ap, ap₂, sym, subst, ◌∙◌, arith}
use Rattle.std.specs.List.{flat_map}
use Rattle.std.proofs.Math.Seq.{set-append_seam}
use Rattle.std.proofs.lemmas.Bool.{le-leb, and_from}
use Rattle.std.proofs.lemmas.List.{append_assoc, length-append}
use Rattle.std.proofs.lemmas.List.Elements.{All-head, All-tail}
use Rattle.lists.proofs.Short.{three_items}
use Rattle.layouts.specs.declared.numbers.LayoutNumbers.{LayoutNumbers}
use Rattle.layouts.specs.Rules.{is_between, IsLayout}
use Rattle.array_text.specs.declared.fault.TextRefusal.TheVariants.{Layout}
use Rattle.layouts.specs.declared.refusal.LayoutRefusal.TheVariants.{Rank}
use Rattle.array_text.specs.Contents.{Item, keyword, number, part_items, layout_items}
use Rattle.array_text.specs.Numbers.{layout_number}
use Rattle.array_text.specs.Walk.{Rest, ◌>>=◌, word, this_word, dimension, dimensions, lengths, level_or_cells, next_level, levels_from, no_blocks, rank_checked, rank_from, layout_from}
use Rattle.array_text.proofs.LayoutRules.{AreNumbers, extents_numbers, chunk_numbers, no_block, levels_split, levels_taken, levels_numbers}
use Rattle.array_text.proofs.Steps.{Write, Passes, passes_here, passes_then, passes_word, passes_same, then_is, this_word-is}

-- ---- the numbers of the dimensions

passes_number : (n : ℕ) (others : List Item) (rest : Rest) → Write (number n ∷ others) rest.words → Passes (word layout_number rest) n others
passes_number n others rest all = passes_word layout_number n (number n) others rest (λ w e. e) all

passes_one : (n : ℕ) (others : List Item) (rest : Rest) → Write (number n ∷ others) rest.words → Passes (dimensions 1 rest) (n ∷ 1 ∷ 1 ∷ []) others
unfolding dimensions
passes_one n others rest all =
    passes_then (dimension 1 0 rest) _ n (n ∷ 1 ∷ 1 ∷ []) others others (passes_number n others rest all)
    (λ after left. passes_here (n ∷ 1 ∷ 1 ∷ []) others after left)

passes_two : (n m : ℕ) (others : List Item) (rest : Rest) → Write (number n ∷ number m ∷ others) rest.words → Passes (dimensions 2 rest) (n ∷ m ∷ 1 ∷ []) others
unfolding dimensions
passes_two n m others rest all =
    passes_then (dimension 2 0 rest) _ n (n ∷ m ∷ 1 ∷ []) (number m ∷ others) others (passes_number n (number m ∷ others) rest all)
    (λ r some. passes_then (dimension 2 1 r) _ m (n ∷ m ∷ 1 ∷ []) others others (passes_number m others r some)
    (λ after left. passes_here (n ∷ m ∷ 1 ∷ []) others after left))

passes_three : (n m k : ℕ) (others : List Item) (rest : Rest) → Write (number n ∷ number m ∷ number k ∷ others) rest.words
    → Passes (dimensions 3 rest) (n ∷ m ∷ k ∷ []) others
unfolding dimensions
passes_three n m k others rest all =
    passes_then (dimension 3 0 rest) _ n (n ∷ m ∷ k ∷ []) (number m ∷ number k ∷ others) others (passes_number n (number m ∷ number k ∷ others) rest all)
    (λ r some. passes_then (dimension 3 1 r) _ m (n ∷ m ∷ k ∷ []) (number k ∷ others) others (passes_number m (number k ∷ others) r some)
    (λ s more. passes_then (dimension 3 2 s) _ k (n ∷ m ∷ k ∷ []) others others (passes_number k others s more)
    (λ after left. passes_here (n ∷ m ∷ k ∷ []) others after left)))

passes_used : (rank n m k : ℕ) (others : List Item) (rest : Rest) → 1 ≤ rank → rank ≤ 3 → (rank ≤ 1 → m ≡ 1) → (rank ≤ 2 → k ≡ 1)
    → Write (map number (take rank (n ∷ m ∷ k ∷ [])) ++ others) rest.words → Passes (dimensions rank rest) (n ∷ m ∷ k ∷ []) others
passes_used zero n m k others rest some few two three all = absurd (omega arith)
passes_used (suc zero) n m k others rest some few two three all =
    passes_same (dimensions 1 rest) (n ∷ 1 ∷ 1 ∷ []) (n ∷ m ∷ k ∷ []) others
    (ap₂ (λ i j. n ∷ i ∷ j ∷ []) (sym (two (omega arith))) (sym (three (omega arith)))) (passes_one n others rest all)
passes_used (suc (suc zero)) n m k others rest some few two three all =
    passes_same (dimensions 2 rest) (n ∷ m ∷ 1 ∷ []) (n ∷ m ∷ k ∷ []) others
    (ap (λ j. n ∷ m ∷ j ∷ []) (sym (three (omega arith)))) (passes_two n m others rest all)
passes_used (suc (suc (suc zero))) n m k others rest some few two three all = passes_three n m k others rest all
passes_used (suc (suc (suc (suc rank)))) n m k others rest some few two three all = absurd (omega arith)

pub passes_dimensions : (rank : ℕ) (ns : List ℕ) (others : List Item) (rest : Rest) → 1 ≤ rank → rank ≤ 3 → AreNumbers rank ns
    → Write (map number (take rank ns) ++ others) rest.words → Passes (dimensions rank rest) ns others
passes_dimensions rank ns others rest some few are all =
    let is = three_items ns 0 are.three in
    passes_same (dimensions rank rest) _ ns others (sym is)
    (passes_used rank (get_or ns 0 0) (get_or ns 1 0) (get_or ns 2 0) others rest some few
    (λ low. are.unused 1 low (omega arith)) (λ low. are.unused 2 low (omega arith))
    (subst (λ l. Write (map number (take rank l) ++ others) rest.words) is all))

passes_lengths : (name : List ℕ) (rank : ℕ) (ns : List ℕ) (others : List Item) (rest : Rest) → 1 ≤ rank → rank ≤ 3 → AreNumbers rank ns
    → Write (part_items name rank ns ++ others) rest.words → Passes (lengths name rank rest) ns others
unfolding lengths
passes_lengths name rank ns others rest some few are all =
    passes_then (word (this_word name) rest) _ tt ns (map number (take rank ns) ++ others) others
    (passes_word (this_word name) tt (keyword name) (map number (take rank ns) ++ others) rest (λ w e. this_word-is name w e) all)
    (λ r left. passes_dimensions rank ns others r some few are left)

-- ---- the levels

passes_level : (rank : ℕ) (block : List ℕ) (others : List Item) (rest : Rest) → 1 ≤ rank → rank ≤ 3 → AreNumbers rank block
    → Write (part_items (codes "level") rank block ++ others) rest.words → Passes (next_level rank rest) (Some block) others
unfolding next_level
passes_level rank block others rest some few are all =
    passes_then (word level_or_cells rest) _ true (Some block) (map number (take rank block) ++ others) others
    (passes_word level_or_cells true (keyword (codes "level")) (map number (take rank block) ++ others) rest (λ w e. ap level_or_cells e) all)
    (λ r left. passes_then (dimensions rank r) _ block (Some block) others others (passes_dimensions rank block others r some few are left)
    (λ after more. passes_here (Some block) others after more))

passes_no_level : (rank : ℕ) (others : List Item) (rest : Rest) → Write (keyword (codes "cells") ∷ others) rest.words → Passes (next_level rank rest) None others
unfolding next_level
passes_no_level rank others rest all =
    passes_then (word level_or_cells rest) _ false None others others
    (passes_word level_or_cells false (keyword (codes "cells")) others rest (λ w e. ap level_or_cells e) all)
    (λ after left. passes_here None others after left)

-- the blocks of each level, and no blocks in the levels after them
abbrev pub all_blocks : ℕ → List (List ℕ) → List (List ℕ) → List (List ℕ)
all_blocks more before blocks = before ++ (blocks ++ replicate (more - length blocks) no_block)

pub no_more : (more : ℕ) (before : List (List ℕ)) → ◌≡◌ {A = ℕ × List (List ℕ)} (length before, before ++ replicate more no_block) (length before + 0, all_blocks more before [])
no_more more before = ap₂ (λ n bs. (n, bs)) (omega arith) (ap (λ n. before ++ replicate n no_block) (omega arith))

-- a block after those before it
pub one_more : (before : List (List ℕ)) (b : List ℕ) → length (before ++ b ∷ []) ≡ length before + 1
one_more before b = length-append before (b ∷ [])

pub blocks_set : (more : ℕ) (before : List (List ℕ)) (b : List ℕ)
    → slice_set (before ++ replicate (suc more) no_block) (length before) b ≡ (before ++ b ∷ []) ++ replicate more no_block
blocks_set more before b = set-append_seam before no_block (replicate more no_block) b ∙ sym (append_assoc before (b ∷ []) (replicate more no_block))

pub all_blocks-more : (more : ℕ) (before : List (List ℕ)) (b : List ℕ) (blocks : List (List ℕ))
    → all_blocks more (before ++ b ∷ []) blocks ≡ all_blocks (suc more) before (b ∷ blocks)
all_blocks-more more before b blocks =
    append_assoc before (b ∷ []) (blocks ++ replicate (more - length blocks) no_block)
    ∙ ap (λ n. before ++ (b ∷ (blocks ++ replicate n no_block))) (omega arith)

after_block : (rank more : ℕ) (before : List (List ℕ)) (b : List ℕ) (blocks : List (List ℕ)) (others : List Item) (rest : Rest)
    → Passes (levels_from rank more (length (before ++ b ∷ [])) ((before ++ b ∷ []) ++ replicate more no_block) rest)
    (length (before ++ b ∷ []) + length blocks, all_blocks more (before ++ b ∷ []) blocks) others
    → Passes (levels_from rank more (length before + 1) (slice_set (before ++ replicate (suc more) no_block) (length before) b) rest)
    (length before + length (b ∷ blocks), all_blocks (suc more) before (b ∷ blocks)) others
after_block rank more before b blocks others rest p =
    passes_same _ _ _ others
    (ap₂ (λ n bs. (n, bs)) (omega (arith, one_more before b)) (all_blocks-more more before b blocks))
    (subst (λ n. Passes (levels_from rank more n (slice_set (before ++ replicate (suc more) no_block) (length before) b) rest)
    (length (before ++ b ∷ []) + length blocks, all_blocks more (before ++ b ∷ []) blocks) others) (one_more before b)
    (subst (λ bs. Passes (levels_from rank more (length (before ++ b ∷ [])) bs rest)
    (length (before ++ b ∷ []) + length blocks, all_blocks more (before ++ b ∷ []) blocks) others) (sym (blocks_set more before b)) p))

pub passes_levels : (rank more : ℕ) (before blocks : List (List ℕ)) (others : List Item) (rest : Rest) → 1 ≤ rank → rank ≤ 3 → length blocks ≤ more
    → All (AreNumbers rank) blocks → Write (flat_map (part_items (codes "level") rank) blocks ++ keyword (codes "cells") ∷ others) rest.words
    → Passes (levels_from rank more (length before) (before ++ replicate more no_block) rest) (length before + length blocks, all_blocks more before blocks) others
unfolding levels_from
passes_levels rank zero before [] others rest some few room are all =
    passes_then (word (this_word (codes "cells")) rest) _ tt (length before + 0, all_blocks 0 before []) others others
    (passes_word (this_word (codes "cells")) tt (keyword (codes "cells")) others rest (λ w e. this_word-is (codes "cells") w e) all)
    (λ after left. passes_same _ (length before, before ++ replicate 0 no_block) _ others (no_more 0 before)
    (passes_here (length before, before ++ replicate 0 no_block) others after left))
passes_levels rank zero before (b ∷ blocks) others rest some few room are all = absurd (omega arith)
passes_levels rank (suc more) before [] others rest some few room are all =
    passes_then (next_level rank rest) _ None (length before + 0, all_blocks (suc more) before []) others others (passes_no_level rank others rest all)
    (λ after left. passes_same _ (length before, before ++ replicate (suc more) no_block) _ others (no_more (suc more) before)
    (passes_here (length before, before ++ replicate (suc more) no_block) others after left))
passes_levels rank (suc more) before (b ∷ blocks) others rest some few room are all =
    passes_then (next_level rank rest) _ (Some b) (length before + length (b ∷ blocks), all_blocks (suc more) before (b ∷ blocks))
    (flat_map (part_items (codes "level") rank) blocks ++ keyword (codes "cells") ∷ others) others
    (passes_level rank b _ rest some few (All-head (AreNumbers rank) b blocks are)
    (subst (λ items. Write items rest.words) (append_assoc (part_items (codes "level") rank b) (flat_map (part_items (codes "level") rank) blocks) _) all))
    (λ r left. after_block rank more before b blocks others r (passes_levels rank more (before ++ b ∷ []) blocks others r some few (omega arith) (All-tail (AreNumbers rank) b blocks are) left))

-- ---- the rank

passes_rank : (rank : ℕ) (others : List Item) (rest : Rest) → 1 ≤ rank → rank ≤ 3 → Write (keyword (codes "rank") ∷ number rank ∷ others) rest.words
    → Passes (rank_from rest) rank others
unfolding rank_from
passes_rank rank others rest some few all =
    passes_then (word (this_word (codes "rank")) rest) _ tt rank (number rank ∷ others) others
    (passes_word (this_word (codes "rank")) tt (keyword (codes "rank")) (number rank ∷ others) rest (λ w e. this_word-is (codes "rank") w e) all)
    (λ r left. passes_then (word layout_number r) _ rank rank others others (passes_number rank others r left)
    (λ after more. checked after more))
  where
    between : is_between 1 3 rank ≡ true
    between = and_from (nat_le 1 rank) (nat_le rank 3) (le-leb 1 rank some) (le-leb rank 3 few)

    checked : (after : Rest) → Write others after.words → Passes (rank_checked rank >>= (λ _. Ok (rank, after))) rank others
    checked after more = record { after = after; is = then_is (rank_checked rank) (λ _. Ok (rank, after)) tt (rank, after) (ap (λ b. cond b (Ok tt) (Err (Layout (Rank rank)))) between) refl; left = more }

-- ---- the layout

pub items_split : (l : LayoutNumbers) (others : List Item)
    → layout_items l ++ others ≡ keyword (codes "rank") ∷ number l.rank ∷ (part_items (codes "extent") l.rank l.extents ++ (part_items (codes "chunk") l.rank l.chunk
    ++ (flat_map (part_items (codes "level") l.rank) (take l.levels l.blocks) ++ keyword (codes "cells") ∷ others)))
items_split l others =
    let extent = part_items (codes "extent") l.rank l.extents in
    let chunk = part_items (codes "chunk") l.rank l.chunk in
    let levels = flat_map (part_items (codes "level") l.rank) (take l.levels l.blocks) in
    ap (λ items. keyword (codes "rank") ∷ number l.rank ∷ items)
    (append_assoc ((extent ++ chunk) ++ levels) (keyword (codes "cells") ∷ []) others
    ∙ append_assoc (extent ++ chunk) levels (keyword (codes "cells") ∷ others)
    ∙ append_assoc extent chunk (levels ++ keyword (codes "cells") ∷ others))

passes_used_levels : (l : LayoutNumbers) (others : List Item) (rest : Rest) → IsLayout l
    → Write (flat_map (part_items (codes "level") l.rank) (take l.levels l.blocks) ++ keyword (codes "cells") ∷ others) rest.words
    → Passes (levels_from l.rank 4 0 no_blocks rest) (l.levels, l.blocks) others
passes_used_levels l others rest is all =
    let taken = levels_taken l is in
    passes_same (levels_from l.rank 4 0 no_blocks rest) _ (l.levels, l.blocks) others
    (ap₂ (λ n bs. (n, bs)) (omega (arith, taken)) (ap (λ n. take l.levels l.blocks ++ replicate (4 - n) no_block) taken ∙ sym (levels_split l is)))
    (passes_levels l.rank 4 [] (take l.levels l.blocks) others rest is.facts.rank_some is.facts.rank_few (omega (arith, taken, is.facts.levels_few)) (levels_numbers l is) all)

pub passes_layout : (l : LayoutNumbers) (others : List Item) (rest : Rest) → IsLayout l → Write (layout_items l ++ others) rest.words → Passes (layout_from rest) l others
unfolding layout_from
passes_layout l others rest is all =
    let some = is.facts.rank_some in
    let few = is.facts.rank_few in
    let levels = flat_map (part_items (codes "level") l.rank) (take l.levels l.blocks) ++ keyword (codes "cells") ∷ others in
    let chunk = part_items (codes "chunk") l.rank l.chunk ++ levels in
    let extent = part_items (codes "extent") l.rank l.extents ++ chunk in
    passes_then (rank_from rest) _ l.rank l extent others
    (passes_rank l.rank extent rest some few (subst (λ items. Write items rest.words) (items_split l others) all))
    (λ a from_extent. passes_then (lengths (codes "extent") l.rank a) _ l.extents l chunk others
    (passes_lengths (codes "extent") l.rank l.extents chunk a some few (extents_numbers l is) from_extent)
    (λ b from_chunk. passes_then (lengths (codes "chunk") l.rank b) _ l.chunk l levels others
    (passes_lengths (codes "chunk") l.rank l.chunk levels b some few (chunk_numbers l is) from_chunk)
    (λ c from_level. passes_then (levels_from l.rank 4 0 no_blocks c) _ (l.levels, l.blocks) l others others
    (passes_used_levels l others c is from_level)
    (λ after left. passes_here l others after left))))
