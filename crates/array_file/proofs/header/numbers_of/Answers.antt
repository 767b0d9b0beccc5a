use Rattle.std.proofs.Common.{List, ℕ, [], ◌∷◌, slice_index, sym, ap, ◌∙◌}
use Rattle.array_file.specs.Header.{layout_numbers}
use Rattle.array_file.proofs.Layouts.{spelled_is}
use Rattle.array_file.proofs.header.numbers_of.Goals as goal

pub returns : goal.returns
returns c =
    let l = c.args.layout.now in
    let rank = c.from-rank.ensures ∙ c.rank.ensures.rank in
    let levels = c.from-levels.ensures ∙ c.levels.ensures in
    let e = λ (k : ℕ). ap (λ (ns : List ℕ). slice_index ns k) c.shape.ensures.extents in
    let n = λ (k : ℕ). ap (λ (ns : List ℕ). slice_index ns k) c.chunk.ensures in
    let b = λ (k : ℕ). ap (λ (ns : List ℕ). slice_index ns k) c.block.ensures in
    let b_2 = λ (k : ℕ). ap (λ (ns : List ℕ). slice_index ns k) c.block-2.ensures in
    let b_3 = λ (k : ℕ). ap (λ (ns : List ℕ). slice_index ns k) c.block-3.ensures in
    let b_4 = λ (k : ℕ). ap (λ (ns : List ℕ). slice_index ns k) c.block-4.ensures in
    (λ i.
    1 ∷ rank i ∷ e 0 i ∷ e 1 i ∷ e 2 i ∷ n 0 i ∷ n 1 i ∷ n 2 i ∷ levels i
    ∷ b 0 i ∷ b 1 i ∷ b 2 i ∷ b_2 0 i ∷ b_2 1 i ∷ b_2 2 i ∷ b_3 0 i ∷ b_3 1 i ∷ b_3 2 i ∷ b_4 0 i ∷ b_4 1 i ∷ b_4 2 i ∷ [])
    ∙ sym (ap layout_numbers (spelled_is l c.rank.ensures.rules))
