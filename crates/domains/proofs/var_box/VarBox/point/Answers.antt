use Rattle.std.proofs.Common.{rules, ◌≡◌, subst, sym, true, false, length, MatchOption, ◌≢◌, ◌∷◌, []}
use Rattle.std.specs.List.{list_all}
use Rattle.domains.specs.Values.{has_one_value}
use Rattle.domains.specs.VarBoxes.{points_in}
use Rattle.domains.proofs.PointCounts.{one_point, several_points}
use Rattle.domains.proofs.var_box.VarBox.point.Goals as goal

pub returns-then-have_one_value : goal.returns-then-have_one_value
returns-then-have_one_value c =
    let box = c.args.self.now in
    let one : list_all has_one_value box ≡ true = search rules in
    subst (λ r. MatchOption r (length (points_in box) ≢ 1) (λ p. points_in box ≡ p ∷ [])) (sym c.least.ensures.first) (one_point box c.doms.ensures.kept.values one)

pub returns-else-have_one_value : goal.returns-else-have_one_value
returns-else-have_one_value c =
    let box = c.args.self.now in
    let two : list_all has_one_value box ≡ false = search rules in
    several_points box c.doms.ensures.kept.values two
