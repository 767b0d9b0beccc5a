use Rattle.std.proofs.Common.{◌≡◌, length, drop, replicate, ap, sym, ◌∙◌, subst, true, false, rules}
use Rattle.std.specs.List.{list_all}
use Rattle.std.proofs.lemmas.List.{take_at}
use Rattle.domains.specs.Values.{has_value}
use Rattle.domains.specs.Splits.{no_domain}
use Rattle.domains.specs.VarBoxes.{HaveValues, points_in}
use Rattle.domains.proofs.NonemptyDomains.{have_values, points_none}
use Rattle.domains.proofs.Padding.{padded_fresh}
use Rattle.domains.proofs.var_box.VarBox.new.Goals as goal

pub returns-then-not-have_values-clause-points : goal.returns-then-not-have_values-clause-points
returns-then-not-have_values-clause-points c =
    let none : list_all has_value c.args.doms.now ≡ false = search rules in
    ap points_in c.empty.ensures ∙ sym (points_none c.args.doms.now none)

pub invariant_of-result : goal.invariant_of-result
invariant_of-result c =
    let doms = c.args.doms.now in
    let all : list_all has_value doms ≡ true = search rules in
    let same = c.copy_from_slice.ensures.after in (
      padded_fresh no_domain doms c.copy_from_slice.new.self same c.requires.few,
      subst HaveValues (sym (take_at c.copy_from_slice.new.self (drop (length doms) (replicate 8 no_domain)) (length doms) (ap length same) ∙ same)) (have_values doms all),
    )
