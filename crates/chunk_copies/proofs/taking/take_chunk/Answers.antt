use Rattle.std.proofs.Common.{rules, ◌≡◌, ◌≤◌, [], ◌∷◌, length, map, replicate, All, ap, sym, ◌∙◌, subst, arith}
use Rattle.std.proofs.lemmas.List.{length-replicate}
use Rattle.lists.proofs.Short.{three_items}
use Rattle.cells.specs.Cells.{empty_cell}
use Rattle.layouts.specs.declared.cut.Cut.{Cut}
use Rattle.chunk_copies.specs.Boxes.{source_size, target_size, IsWithinBoth, CopiesBox}
use Rattle.chunk_copies.proofs.Takings.{from_array, within, source_fits, target_fits, takes_chunk}
use Rattle.chunk_copies.proofs.taking.take_chunk.Goals as goal

pub from_array-requires : goal.from_array-requires
from_array-requires c =
    let d : Cut = record { extent = 0; length = 0; from = 0; to = 0 } in
    let some = (c.cuts.ensures.cuts.each 0 d (search rules)).some in omega (arith, some)

pub from_array-requires-2 : goal.from_array-requires-2
from_array-requires-2 c =
    let d : Cut = record { extent = 0; length = 0; from = 0; to = 0 } in
    let some = (c.cuts.ensures.cuts.each 1 d (search rules)).some in omega (arith, some)

pub from_array-requires-3 : goal.from_array-requires-3
from_array-requires-3 c =
    let d : Cut = record { extent = 0; length = 0; from = 0; to = 0 } in
    let some = (c.cuts.ensures.cuts.each 2 d (search rules)).some in omega (arith, some)

pub copy_box-requires-clause-within : goal.copy_box-requires-clause-within
copy_box-requires-clause-within c =
    let d : Cut = record { extent = 0; length = 0; from = 0; to = 0 } in
    let cs = c.cuts.result in
    let made : c.from_array.result ∷ c.from_array-2.result ∷ c.from_array-3.result ∷ [] ≡ map from_array cs =
    (λ i. c.from_array.ensures i ∷ c.from_array-2.ensures i ∷ c.from_array-3.ensures i ∷ []) ∙ ap (map from_array) (sym (three_items cs d (search rules))) in
    subst (All IsWithinBoth) (sym made) (within cs c.cuts.ensures.cuts.each)

pub copy_box-requires-clause-source : goal.copy_box-requires-clause-source
copy_box-requires-clause-source c =
    let d : Cut = record { extent = 0; length = 0; from = 0; to = 0 } in
    let cs = c.cuts.result in
    let made : c.from_array.result ∷ c.from_array-2.result ∷ c.from_array-3.result ∷ [] ≡ map from_array cs =
    (λ i. c.from_array.ensures i ∷ c.from_array-2.ensures i ∷ c.from_array-3.ensures i ∷ []) ∙ ap (map from_array) (sym (three_items cs d (search rules))) in
    subst (λ b. source_size b ≤ length c.args.cells.now) (sym made) (source_fits cs _ (length c.args.cells.now) c.cuts.ensures.cuts.extents c.requires.all)

pub copy_box-requires-clause-target : goal.copy_box-requires-clause-target
copy_box-requires-clause-target c =
    let d : Cut = record { extent = 0; length = 0; from = 0; to = 0 } in
    let cs = c.cuts.result in
    let made : c.from_array.result ∷ c.from_array-2.result ∷ c.from_array-3.result ∷ [] ≡ map from_array cs =
    (λ i. c.from_array.ensures i ∷ c.from_array-2.ensures i ∷ c.from_array-3.ensures i ∷ []) ∙ ap (map from_array) (sym (three_items cs d (search rules))) in
    let empty : c.fill.new.self ≡ replicate (length c.args.chunk.now) empty_cell = c.fill.ensures.after (λ y e. e) in
    let size : length c.fill.new.self ≡ length c.args.chunk.now = ap length empty ∙ length-replicate (length c.args.chunk.now) empty_cell in
    subst (λ b. target_size b ≡ length c.fill.new.self) (sym made) (target_fits cs _ (length c.fill.new.self) c.cuts.ensures.cuts.lengths (size ∙ c.requires.long))

pub returns-clause-taken : goal.returns-clause-taken
returns-clause-taken c =
    let d : Cut = record { extent = 0; length = 0; from = 0; to = 0 } in
    let cs = c.cuts.result in
    let made : c.from_array.result ∷ c.from_array-2.result ∷ c.from_array-3.result ∷ [] ≡ map from_array cs =
    (λ i. c.from_array.ensures i ∷ c.from_array-2.ensures i ∷ c.from_array-3.ensures i ∷ []) ∙ ap (map from_array) (sym (three_items cs d (search rules))) in
    let empty : c.fill.new.self ≡ replicate (length c.args.chunk.now) empty_cell = c.fill.ensures.after (λ y e. e) in
    takes_chunk c.args.layout.now c.args.n cs c.args.cells.now c.fill.new.self c.copy_box.new.target c.cuts.ensures.rules c.requires.chunk
    c.cuts.ensures.cuts (empty ∙ ap (λ n. replicate n empty_cell) c.requires.long)
    (subst (λ b. CopiesBox b c.args.cells.now c.fill.new.self c.copy_box.new.target) made c.copy_box.ensures)
