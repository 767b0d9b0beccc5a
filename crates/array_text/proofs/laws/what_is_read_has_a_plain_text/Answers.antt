use Rattle.array_text.specs.Contents.{layout_items}
use Rattle.array_text.specs.Words.{words}
use Rattle.array_text.proofs.CellBits.{cells_fit}
use Rattle.array_text.proofs.PlainTexts.{plain_text-is}
use Rattle.array_text.proofs.ReadArrays.{stated_array-state}
use Rattle.array_text.proofs.laws.what_is_read_has_a_plain_text.Goals as goal

pub returns : goal.returns
returns c bytes l cells e =
    let state = stated_array-state c.rules_make_a_layout.ensures bytes l cells e in
    plain_text-is l cells state.layout state.count (cells_fit (layout_items l) cells (words bytes) state.items)
