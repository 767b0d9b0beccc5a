-- The words before what a step leaves stand for what the step gives.
-- Used by the proofs of `ReadArrays`.
use Rattle.std.proofs.Common.{◌≡◌, ℕ, zero, suc, ◌+◌, ◌-◌, ◌≤◌, nat_le, Bool, true, false, cond, List, [], ◌∷◌, ◌++◌, length, map, take, replicate, Option, Some, None, Ok, Err, All, bytes_eq, codes, slice_set, refl, ap, ap₂, sym, subst, ◌∙◌, arith}
use Rattle.std.specs.Prelude.{⊤, if◌then◌else◌}
use Rattle.std.specs.List.{flat_map}
use Rattle.std.specs.Option.{option_map_or}
use Rattle.std.proofs.Math.Seq.{take-append_seam}
use Rattle.std.proofs.lemmas.Bool.{leb-true, and_parts}
use Rattle.std.proofs.lemmas.List.{append_assoc, length-append, length-replicate}
use Rattle.std.proofs.lemmas.List.Elements.{All-nil, All-cons, All-append, All-replicate}
use Rattle.std.proofs.lemmas.Slice.Eq.{bytes_eq-Decides}
use Rattle.layouts.specs.declared.numbers.LayoutNumbers.{LayoutNumbers}
use Rattle.layouts.specs.Rules.{is_between}
use Rattle.array_text.specs.declared.fault.TextRefusal.{TextRefusal}
use Rattle.array_text.specs.Contents.{Item, keyword, number, part_items, layout_items, IsWrittenAs}
use Rattle.array_text.specs.Numbers.{layout_number}
use Rattle.array_text.specs.Walk.{Walked, Rest, ◌>>=◌, word, this_word, dimension, dimensions, lengths, level_or_cells, next_level, levels_from, no_blocks, rank_checked, rank_from, layout_from}
use Rattle.array_text.proofs.LayoutRules.{no_block}
use Rattle.array_text.proofs.StatedLayouts.{all_blocks, one_more, blocks_set, all_blocks-more, no_more, items_split}
use Rattle.array_text.proofs.Steps.{Write, then_ok, same_value, came_word, this_word-some}

-- the words before those that are left after a step stand for these items
abbrev pub Between : List Item → Rest → Rest → Type 0
Between items rest after = (others : List Item) → Write others after.words → Write (items ++ others) rest.words

pub between_then : (items more : List Item) (rest middle after : Rest) → Between items rest middle → Between more middle after → Between (items ++ more) rest after
between_then items more rest middle after first second others all =
    subst (λ both. Write both rest.words) (sym (append_assoc items more others)) (first (more ++ others) (second others all))

pub between_word : {X : Type 0} (form : List ℕ → Option X) (x : X) (item : Item) (rest after : Rest) → ((w : List ℕ) → form w ≡ Some x → IsWrittenAs item w)
    → word form rest ≡ Ok (x, after) → Between (item ∷ []) rest after
between_word form x item rest after writes e others all = came_word form x item others rest after writes e all

between_keyword : (name : List ℕ) (x : ⊤) (rest after : Rest) → word (this_word name) rest ≡ Ok (x, after) → Between (keyword name ∷ []) rest after
between_keyword name x rest after e = between_word (this_word name) x (keyword name) rest after (λ w f. this_word-some name w x f) e

between_number : (n : ℕ) (rest after : Rest) → word layout_number rest ≡ Ok (n, after) → Between (number n ∷ []) rest after
between_number n rest after e = between_word layout_number n (number n) rest after (λ w f. f) e

-- ---- the numbers of the dimensions

record ReadsNumbers (rank : ℕ) (ns : List ℕ) (rest after : Rest) : Type 0 where
  three : length ns ≡ 3
  words : Between (map number (take rank ns)) rest after

reads_one : (ns : List ℕ) (rest after : Rest) → dimensions 1 rest ≡ Ok (ns, after) → ReadsNumbers 1 ns rest after
unfolding dimensions
reads_one ns rest after e =
    let a = then_ok (dimension 1 0 rest) _ (ns, after) e in
    subst (λ (p : List ℕ × Rest). ReadsNumbers 1 p.0 rest p.1) (same_value _ (ns, after) a.2)
    (record { three = refl; words = between_number a.0.0 rest a.0.1 a.1 })

reads_two : (ns : List ℕ) (rest after : Rest) → dimensions 2 rest ≡ Ok (ns, after) → ReadsNumbers 2 ns rest after
unfolding dimensions
reads_two ns rest after e =
    let a = then_ok (dimension 2 0 rest) _ (ns, after) e in
    let b = then_ok (dimension 2 1 a.0.1) _ (ns, after) a.2 in
    subst (λ (p : List ℕ × Rest). ReadsNumbers 2 p.0 rest p.1) (same_value _ (ns, after) b.2)
    (record {
      three = refl;
      words = between_then (number a.0.0 ∷ []) (number b.0.0 ∷ []) rest a.0.1 b.0.1 (between_number a.0.0 rest a.0.1 a.1) (between_number b.0.0 a.0.1 b.0.1 b.1);
    })

reads_three : (ns : List ℕ) (rest after : Rest) → dimensions 3 rest ≡ Ok (ns, after) → ReadsNumbers 3 ns rest after
unfolding dimensions
reads_three ns rest after e =
    let a = then_ok (dimension 3 0 rest) _ (ns, after) e in
    let b = then_ok (dimension 3 1 a.0.1) _ (ns, after) a.2 in
    let c = then_ok (dimension 3 2 b.0.1) _ (ns, after) b.2 in
    subst (λ (p : List ℕ × Rest). ReadsNumbers 3 p.0 rest p.1) (same_value _ (ns, after) c.2)
    (record {
      three = refl;
      words = between_then (number a.0.0 ∷ []) (number b.0.0 ∷ number c.0.0 ∷ []) rest a.0.1 c.0.1 (between_number a.0.0 rest a.0.1 a.1)
          (between_then (number b.0.0 ∷ []) (number c.0.0 ∷ []) a.0.1 b.0.1 c.0.1 (between_number b.0.0 a.0.1 b.0.1 b.1) (between_number c.0.0 b.0.1 c.0.1 c.1));
    })

reads_dimensions : (rank : ℕ) (ns : List ℕ) (rest after : Rest) → 1 ≤ rank → rank ≤ 3 → dimensions rank rest ≡ Ok (ns, after) → ReadsNumbers rank ns rest after
reads_dimensions zero ns rest after some few e = absurd (omega arith)
reads_dimensions (suc zero) ns rest after some few e = reads_one ns rest after e
reads_dimensions (suc (suc zero)) ns rest after some few e = reads_two ns rest after e
reads_dimensions (suc (suc (suc zero))) ns rest after some few e = reads_three ns rest after e
reads_dimensions (suc (suc (suc (suc rank)))) ns rest after some few e = absurd (omega arith)

-- ---- a part of the layout

record ReadsPart (name : List ℕ) (rank : ℕ) (ns : List ℕ) (rest after : Rest) : Type 0 where
  three : length ns ≡ 3
  words : Between (part_items name rank ns) rest after

reads_lengths : (name : List ℕ) (rank : ℕ) (ns : List ℕ) (rest after : Rest) → 1 ≤ rank → rank ≤ 3 → lengths name rank rest ≡ Ok (ns, after)
    → ReadsPart name rank ns rest after
unfolding lengths
reads_lengths name rank ns rest after some few e =
    let a = then_ok (word (this_word name) rest) _ (ns, after) e in
    let numbers = reads_dimensions rank ns a.0.1 after some few a.2 in
    record {
      three = numbers.three;
      words = between_then (keyword name ∷ []) (map number (take rank ns)) rest a.0.1 after (between_keyword name a.0.0 rest a.0.1 a.1) numbers.words;
    }

-- ---- the levels

-- a level, or no level
abbrev ReadsLevel : ℕ → Option (List ℕ) → Rest → Rest → Type 0
ReadsLevel rank None rest after = Between (keyword (codes "cells") ∷ []) rest after
ReadsLevel rank (Some block) rest after = ReadsPart (codes "level") rank block rest after

level_word : (p q is_level : Bool) → cond p (Some true) (cond q (Some false) None) ≡ Some is_level → cond is_level p q ≡ true
level_word true q true e = refl
level_word true q false e = absurd (cc)
level_word false true true e = absurd (cc)
level_word false true false e = refl
level_word false false is_level e = absurd (cc)

is_level_word : (w : List ℕ) → level_or_cells w ≡ Some true → w ≡ codes "level"
is_level_word w e = (bytes_eq-Decides w (codes "level")).0 (level_word (bytes_eq w (codes "level")) (bytes_eq w (codes "cells")) true e)

is_cells_word : (w : List ℕ) → level_or_cells w ≡ Some false → w ≡ codes "cells"
is_cells_word w e = (bytes_eq-Decides w (codes "cells")).0 (level_word (bytes_eq w (codes "level")) (bytes_eq w (codes "cells")) false e)

abbrev block_after : ℕ → Bool → Rest → Walked (Option (List ℕ) × Rest)
block_after rank is_level rest = if is_level then dimensions rank rest >>= (λ (block, rest). Ok (Some block, rest)) else Ok (None, rest)

reads_after : (rank : ℕ) (is_level : Bool) (found : Option (List ℕ)) (rest middle after : Rest) → 1 ≤ rank → rank ≤ 3 → word level_or_cells rest ≡ Ok (is_level, middle)
    → block_after rank is_level middle ≡ Ok (found, after) → ReadsLevel rank found rest after
reads_after rank false found rest middle after some few first second =
    subst (λ (p : Option (List ℕ) × Rest). ReadsLevel rank p.0 rest p.1) (same_value (None, middle) (found, after) second)
    (between_word level_or_cells false (keyword (codes "cells")) rest middle is_cells_word first)
reads_after rank true found rest middle after some few first second =
    let a = then_ok (dimensions rank middle) _ (found, after) second in
    let numbers = reads_dimensions rank a.0.0 middle a.0.1 some few a.1 in
    subst (λ (p : Option (List ℕ) × Rest). ReadsLevel rank p.0 rest p.1) (same_value (Some a.0.0, a.0.1) (found, after) a.2)
    (record {
      three = numbers.three;
      words = between_then (keyword (codes "level") ∷ []) (map number (take rank a.0.0)) rest middle a.0.1
          (between_word level_or_cells true (keyword (codes "level")) rest middle is_level_word first) numbers.words;
    })

reads_level : (rank : ℕ) (found : Option (List ℕ)) (rest after : Rest) → 1 ≤ rank → rank ≤ 3 → next_level rank rest ≡ Ok (found, after) → ReadsLevel rank found rest after
unfolding next_level
reads_level rank found rest after some few e =
    let a = then_ok (word level_or_cells rest) _ (found, after) e in
    reads_after rank a.0.0 found rest a.0.1 after some few a.1 a.2

-- the levels that were read after those before
record ReadsLevels (rank more : ℕ) (before : List (List ℕ)) (levels : ℕ × List (List ℕ)) (rest after : Rest) : Type 0 where
  blocks : List (List ℕ)
  few : length blocks ≤ more
  is : levels ≡ (length before + length blocks, all_blocks more before blocks)
  three : All (λ b. length b ≡ 3) blocks
  words : Between (flat_map (part_items (codes "level") rank) blocks ++ keyword (codes "cells") ∷ []) rest after

reads_next : (rank more : ℕ) (before : List (List ℕ)) (levels : ℕ × List (List ℕ)) (rest after : Rest)
    → ((block : List ℕ) (middle : Rest) → levels_from rank more (length (before ++ block ∷ [])) ((before ++ block ∷ []) ++ replicate more no_block) middle ≡ Ok (levels, after)
    → ReadsLevels rank more (before ++ block ∷ []) levels middle after)
    → (found : Option (List ℕ)) (middle : Rest) → ReadsLevel rank found rest middle
    → option_map_or (λ block. levels_from rank more (length before + 1) (slice_set (before ++ replicate (suc more) no_block) (length before) block) middle) found
    (Ok ((length before, before ++ replicate (suc more) no_block), middle)) ≡ Ok (levels, after)
    → ReadsLevels rank (suc more) before levels rest after
reads_next rank more before levels rest after again None middle first second =
    let same = same_value ((length before, before ++ replicate (suc more) no_block), middle) (levels, after) second in
    record {
      blocks = [];
      few = omega arith;
      is = sym (ap (λ p. p.0) same) ∙ no_more (suc more) before;
      three = All-nil (λ b. length b ≡ 3);
      words = subst (λ r. Between (keyword (codes "cells") ∷ []) rest r) (ap (λ p. p.1) same) first;
    }
reads_next rank more before levels rest after again (Some block) middle first second =
    let others = again block middle (ap₂ (λ n bs. levels_from rank more n bs middle) (one_more before block) (sym (blocks_set more before block)) ∙ second) in
    let part = part_items (codes "level") rank block in
    let parts = flat_map (part_items (codes "level") rank) others.blocks in
    record {
      blocks = block ∷ others.blocks;
      few = omega (arith, others.few);
      is = others.is ∙ ap₂ (λ n bs. (n, bs)) (omega (arith, one_more before block)) (all_blocks-more more before block others.blocks);
      three = All-cons (λ b. length b ≡ 3) block others.blocks first.three others.three;
      words = subst (λ items. Between items rest after) (sym (append_assoc part parts (keyword (codes "cells") ∷ [])))
          (between_then part (parts ++ keyword (codes "cells") ∷ []) rest middle after first.words others.words);
    }

reads_levels : (rank more : ℕ) (before : List (List ℕ)) (levels : ℕ × List (List ℕ)) (rest after : Rest) → 1 ≤ rank → rank ≤ 3
    → levels_from rank more (length before) (before ++ replicate more no_block) rest ≡ Ok (levels, after) → ReadsLevels rank more before levels rest after
unfolding levels_from
reads_levels rank zero before levels rest after some few e =
    let a = then_ok (word (this_word (codes "cells")) rest) _ (levels, after) e in
    let same = same_value _ (levels, after) a.2 in
    record {
      blocks = [];
      few = omega arith;
      is = sym (ap (λ p. p.0) same) ∙ no_more 0 before;
      three = All-nil (λ b. length b ≡ 3);
      words = subst (λ r. Between (keyword (codes "cells") ∷ []) rest r) (ap (λ p. p.1) same) (between_keyword (codes "cells") a.0.0 rest a.0.1 a.1);
    }
reads_levels rank (suc more) before levels rest after some few e =
    let a = then_ok (next_level rank rest) _ (levels, after) e in
    reads_next rank more before levels rest after (λ block middle f. reads_levels rank more (before ++ block ∷ []) levels middle after some few f)
    a.0.0 a.0.1 (reads_level rank a.0.0 rest a.0.1 some few a.1) a.2

-- ---- the rank

record ReadsRank (rank : ℕ) (rest after : Rest) : Type 0 where
  some : 1 ≤ rank
  few : rank ≤ 3
  words : Between (keyword (codes "rank") ∷ number rank ∷ []) rest after

checked_ok : (p : Bool) (r : TextRefusal) (x : ⊤) → ◌≡◌ {A = Walked ⊤} (cond p (Ok tt) (Err r)) (Ok x) → p ≡ true
checked_ok true r x e = refl
checked_ok false r x e = absurd (cc)

reads_rank : (rank : ℕ) (rest after : Rest) → rank_from rest ≡ Ok (rank, after) → ReadsRank rank rest after
unfolding rank_from
reads_rank rank rest after e =
    let a = then_ok (word (this_word (codes "rank")) rest) _ (rank, after) e in
    let b = then_ok (word layout_number a.0.1) _ (rank, after) a.2 in
    let c = then_ok (rank_checked b.0.0) _ (rank, after) b.2 in
    let between = and_parts (nat_le 1 b.0.0) (nat_le b.0.0 3) (checked_ok (is_between 1 3 b.0.0) _ c.0 c.1) in
    subst (λ (p : ℕ × Rest). ReadsRank p.0 rest p.1) (same_value (b.0.0, b.0.1) (rank, after) c.2)
    (record {
      some = leb-true 1 b.0.0 between.0;
      few = leb-true b.0.0 3 between.1;
      words = between_then (keyword (codes "rank") ∷ []) (number b.0.0 ∷ []) rest a.0.1 b.0.1
          (between_keyword (codes "rank") a.0.0 rest a.0.1 a.1) (between_number b.0.0 a.0.1 b.0.1 b.1);
    })

-- ---- the layout

pub record ReadsLayout (l : LayoutNumbers) (rest after : Rest) : Type 0 where
  pub extents : length l.extents ≡ 3
  pub chunk : length l.chunk ≡ 3
  pub levels : length l.blocks ≡ 4
  pub blocks : All (λ b. length b ≡ 3) l.blocks
  pub words : Between (layout_items l) rest after

module _ (rank : ℕ) (levels : ℕ × List (List ℕ)) (rest after : Rest) (r : ReadsLevels rank 4 [] levels rest after) where
  levels_four : length levels.1 ≡ 4
  levels_four =
      ap (λ p. length p.1) r.is ∙ length-append r.blocks (replicate (4 - length r.blocks) no_block)
      ∙ ap (λ n. length r.blocks + n) (length-replicate (4 - length r.blocks) no_block) ∙ omega (arith, r.few)

  levels_three : All (λ b. length b ≡ 3) levels.1
  levels_three =
      subst (λ p. All (λ b. length b ≡ 3) p.1) (sym r.is)
      (All-append (λ b. length b ≡ 3) r.blocks (replicate (4 - length r.blocks) no_block) r.three
      (All-replicate (λ b. length b ≡ 3) (4 - length r.blocks) no_block refl))

  used_levels : take levels.0 levels.1 ≡ r.blocks
  used_levels =
      ap (λ p. take p.0 p.1) r.is ∙ ap (λ n. take n (r.blocks ++ replicate (4 - length r.blocks) no_block)) (omega arith)
      ∙ take-append_seam r.blocks (replicate (4 - length r.blocks) no_block)

  levels_words : (others : List Item) → Write others after.words → Write (flat_map (part_items (codes "level") rank) (take levels.0 levels.1) ++ keyword (codes "cells") ∷ others) rest.words
  levels_words others all =
      subst (λ blocks. Write (flat_map (part_items (codes "level") rank) blocks ++ keyword (codes "cells") ∷ others) rest.words) (sym used_levels)
      (subst (λ items. Write items rest.words) (append_assoc (flat_map (part_items (codes "level") rank) r.blocks) (keyword (codes "cells") ∷ []) others) (r.words others all))

layout_words : (l : LayoutNumbers) (rest a b c after : Rest) → Between (keyword (codes "rank") ∷ number l.rank ∷ []) rest a
    → Between (part_items (codes "extent") l.rank l.extents) a b → Between (part_items (codes "chunk") l.rank l.chunk) b c
    → ((others : List Item) → Write others after.words → Write (flat_map (part_items (codes "level") l.rank) (take l.levels l.blocks) ++ keyword (codes "cells") ∷ others) c.words)
    → Between (layout_items l) rest after
layout_words l rest a b c after rank extent chunk levels others all =
    let after_chunk = flat_map (part_items (codes "level") l.rank) (take l.levels l.blocks) ++ keyword (codes "cells") ∷ others in
    let after_extent = part_items (codes "chunk") l.rank l.chunk ++ after_chunk in
    subst (λ items. Write items rest.words) (sym (items_split l others))
    (rank (part_items (codes "extent") l.rank l.extents ++ after_extent) (extent after_extent (chunk after_chunk (levels others all))))

reads_parts : (rank : ℕ) (extents chunk : List ℕ) (levels : ℕ × List (List ℕ)) (rest a b c d : Rest) (found : LayoutNumbers × Rest)
    → ReadsRank rank rest a → ReadsPart (codes "extent") rank extents a b → ReadsPart (codes "chunk") rank chunk b c → ReadsLevels rank 4 [] levels c d
    → ◌≡◌ {A = Walked (LayoutNumbers × Rest)} (Ok (record { rank = rank; extents = extents; chunk = chunk; levels = levels.0; blocks = levels.1 }, d)) (Ok found)
    → ReadsLayout found.0 rest found.1
reads_parts rank extents chunk levels rest a b c d found of_rank of_extents of_chunk of_levels e =
    let l : LayoutNumbers = record { rank = rank; extents = extents; chunk = chunk; levels = levels.0; blocks = levels.1 } in
    subst (λ (p : LayoutNumbers × Rest). ReadsLayout p.0 rest p.1) (same_value (l, d) found e)
    (record {
      extents = of_extents.three;
      chunk = of_chunk.three;
      levels = levels_four rank levels c d of_levels;
      blocks = levels_three rank levels c d of_levels;
      words = layout_words l rest a b c d of_rank.words of_extents.words of_chunk.words (levels_words rank levels c d of_levels);
    })

pub reads_layout : (l : LayoutNumbers) (rest after : Rest) → layout_from rest ≡ Ok (l, after) → ReadsLayout l rest after
unfolding layout_from
reads_layout l rest after e =
    let a = then_ok (rank_from rest) _ (l, after) e in
    let rank = reads_rank a.0.0 rest a.0.1 a.1 in
    let b = then_ok (lengths (codes "extent") a.0.0 a.0.1) _ (l, after) a.2 in
    let c = then_ok (lengths (codes "chunk") a.0.0 b.0.1) _ (l, after) b.2 in
    let d = then_ok (levels_from a.0.0 4 0 no_blocks c.0.1) _ (l, after) c.2 in
    reads_parts a.0.0 b.0.0 c.0.0 d.0.0 rest a.0.1 b.0.1 c.0.1 d.0.1 (l, after) rank
    (reads_lengths (codes "extent") a.0.0 b.0.0 a.0.1 b.0.1 rank.some rank.few b.1)
    (reads_lengths (codes "chunk") a.0.0 c.0.0 b.0.1 c.0.1 rank.some rank.few c.1)
    (reads_levels a.0.0 4 [] d.0.0 c.0.1 d.0.1 rank.some rank.few d.1) d.2
