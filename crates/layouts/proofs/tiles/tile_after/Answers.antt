use Rattle.std.proofs.Common.{rules, sym, ap, ◌∙◌, ◌/◌, nat_lt, true, ◌≡◌, cond}
use Rattle.grids.specs.Tiles.{pieces_of}
use Rattle.grids.proofs.ThreeDimensions.{pieces_of-ceil}
use Rattle.layouts.proofs.tiles.tile_after.Goals as goal

pub returns-then-from-to : goal.returns-then-from-to
returns-then-from-to c =
    let from = c.args.from in
    let to = c.args.to in
    let length = c.args.length in
    let less : nat_lt from to ≡ true = search rules in
    c.div_ceil.ensures ∙ pieces_of-ceil to length (search rules) ∙ sym (ap (λ b. cond b (pieces_of to length) (from / length)) less)
