use Rattle.std.proofs.Common.{rules, ◌≡◌, ℕ, ◌<◌, List, ap, sym, subst, ◌∙◌, true}
use Rattle.grids.specs.Coordinates.{coordinates_of, in_bounds}
use Rattle.lists.specs.Numbers.{product}
use Rattle.grids.proofs.ThreeDimensions.{coordinates-three, in_bounds-three, coordinates_of-three}
use Rattle.layouts.proofs.tiles.tile_coordinates.Goals as goal

pub returns-clause-tile : goal.returns-clause-tile
returns-clause-tile c =
    let grid = c.grid_of.result in
    let below : c.args.t < product grid = subst (λ (l : List ℕ). c.args.t < product l) (sym c.grid_of.ensures) c.requires.tile in
    coordinates_of-three grid c.args.t (search rules) below ∙ ap (λ (l : List ℕ). coordinates_of l c.args.t) c.grid_of.ensures

pub returns-clause-in_bounds : goal.returns-clause-in_bounds
returns-clause-in_bounds c =
    let grid = c.grid_of.result in
    let below : c.args.t < product grid = subst (λ (l : List ℕ). c.args.t < product l) (sym c.grid_of.ensures) c.requires.tile in
    subst (λ (l : List ℕ). in_bounds l (coordinates-three grid c.args.t) ≡ true) c.grid_of.ensures (in_bounds-three grid c.args.t (search rules) below)
