use Rattle.std.proofs.Common.{List, ℕ, All, ap, sym, ◌∙◌, subst, arith}
use Rattle.lists.specs.Numbers.{product}
use Rattle.layouts.specs.Rules.{IsLength}
use Rattle.layouts.proofs.Layouts.{all_lengths, are_lengths, all_some, grid_lengths, tile_count-few}
use Rattle.layouts.proofs.lengths.tile_count.Goals as goal

pub grid_of-requires : goal.grid_of-requires
grid_of-requires c = all_some c.args.lengths.now (omega arith) c.requires.lengths

pub product-requires : goal.product-requires
product-requires c =
    let extents = all_lengths c.args.extents.now (omega arith) c.requires.extents in
    let lengths = all_lengths c.args.lengths.now (omega arith) c.requires.lengths in
    are_lengths c.grid_of.result (omega arith)
    (subst (λ (ns : List ℕ). All IsLength ns) (sym c.grid_of.ensures) (grid_lengths c.args.extents.now c.args.lengths.now extents lengths))

pub returns-clause-fewer : goal.returns-clause-fewer
returns-clause-fewer c =
    let extents = all_lengths c.args.extents.now (omega arith) c.requires.extents in
    let lengths = all_lengths c.args.lengths.now (omega arith) c.requires.lengths in
    let few = tile_count-few c.args.extents.now c.args.lengths.now (omega arith) extents lengths in
    let count = c.product.ensures.product ∙ ap product c.grid_of.ensures in omega (arith, few, count)
