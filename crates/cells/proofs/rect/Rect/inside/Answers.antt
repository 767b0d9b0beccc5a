use Rattle.std.proofs.Common.{rules, ◌≡◌}
use Rattle.cells.specs.Rects.{area_of, HasDimensions}
use Rattle.cells.proofs.Rectangles.{inside-empty, inside-met, meets-inside, some_area}
use Rattle.cells.proofs.rect.Rect.inside.Goals as goal

pub returns-then-is_empty : goal.returns-then-is_empty
returns-then-is_empty c =
    let none : area_of c.args.self.now ≡ 0 = search rules in
    (λ _. inside-empty c.args.self.now c.args.other.now none, λ _. c.is_empty.ensures.1 none)

pub returns-else-is_empty : goal.returns-else-is_empty
returns-else-is_empty c =
    let r = c.args.self.now in
    let s = c.args.other.now in
    let own : HasDimensions 3 r = (search rules, search rules) in
    let others : HasDimensions 3 s = (search rules, search rules) in
    let some = some_area c.is_empty.result r c.if-is_empty.false c.is_empty.ensures.1 in
    (λ h. inside-met 3 r s own others (c.is_between.ensures.0 h), λ h. c.is_between.ensures.1 (meets-inside 3 r s own some h))
