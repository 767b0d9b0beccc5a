use Rattle.std.proofs.Common.{rules, ◌≡◌, ◌+◌, ◌*◌, get_or, arith}
use Rattle.grids.proofs.ThreeDimensions.{index_of-three, index_of-three_below}
use Rattle.cells.proofs.shape.Shape.index_of.Goals as goal

pub overflow_mul-result-2 : goal.overflow_mul-result-2
overflow_mul-result-2 c =
    let ns = c.args.self.now.extents in
    let cs = c.args.at in
    let below = index_of-three_below ns cs (search rules) (search rules) c.requires.in_bounds in
    let e : (c.from.result * c.from-2.result + c.from-3.result) * c.from-4.result ≡ (get_or cs 0 0 * get_or ns 1 0 + get_or cs 1 0) * get_or ns 2 0 = cc in
    omega (arith, below, e, c.requires.few)

pub overflow_add-result-2 : goal.overflow_add-result-2
overflow_add-result-2 c =
    let ns = c.args.self.now.extents in
    let cs = c.args.at in
    let below = index_of-three_below ns cs (search rules) (search rules) c.requires.in_bounds in
    let e : (c.from.result * c.from-2.result + c.from-3.result) * c.from-4.result + c.from-5.result ≡ (get_or cs 0 0 * get_or ns 1 0 + get_or cs 1 0) * get_or ns 2 0 + get_or cs 2 0 = cc in
    omega (arith, below, e, c.requires.few)

pub returns-clause-index : goal.returns-clause-index
returns-clause-index c = let e = index_of-three c.args.self.now.extents c.args.at (search rules) (search rules) in cc

pub returns-clause-below : goal.returns-clause-below
returns-clause-below c =
    let ns = c.args.self.now.extents in
    let cs = c.args.at in
    let below = index_of-three_below ns cs (search rules) (search rules) c.requires.in_bounds in
    let e : (c.from.result * c.from-2.result + c.from-3.result) * c.from-4.result + c.from-5.result ≡ (get_or cs 0 0 * get_or ns 1 0 + get_or cs 1 0) * get_or ns 2 0 + get_or cs 2 0 = cc in
    omega (arith, below, e)
