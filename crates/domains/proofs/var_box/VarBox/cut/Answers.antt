use Rattle.std.proofs.Common.{arith, ap, length, get_or}
use Rattle.domains.specs.Splits.{no_domain}
use Rattle.domains.proofs.Widest.{widest_several, several_at, is_first_half, is_second_half}
use Rattle.domains.proofs.var_box.VarBox.cut.Goals as goal

pub bounds-doms-v : goal.bounds-doms-v
bounds-doms-v c =
    let several = widest_several c.args.self.now c.doms.ensures.kept.values c.requires in
    omega (arith, several.0, c.widest-v.ensures, ap length c.doms.ensures.domains)

pub halves-requires : goal.halves-requires
halves-requires c =
    several_at c.args.self.now c.doms.result.now c.widest-v.result c.doms.ensures.kept.values c.requires c.widest-v.ensures c.doms.ensures.domains

pub set-requires : goal.set-requires
set-requires c =
    let several = widest_several c.args.self.now c.doms.ensures.kept.values c.requires in
    omega (arith, several.0, c.widest-v.ensures)

pub set-requires-2 : goal.set-requires-2
set-requires-2 c =
    let several = widest_several c.args.self.now c.doms.ensures.kept.values c.requires in
    omega (arith, several.0, c.widest-v.ensures)

pub returns-clause-first : goal.returns-clause-first
returns-clause-first c =
    let box = c.args.self.now in
    let v = c.widest-v.result in
    let d = get_or c.doms.result.now v no_domain in
    let several = several_at box c.doms.result.now v c.doms.ensures.kept.values c.requires c.widest-v.ensures c.doms.ensures.domains in
    is_first_half box v d c.halves.result.0 c.set-2.new.self several c.widest-v.ensures (ap (λ ds. get_or ds v no_domain) c.doms.ensures.domains) c.set-2.ensures c.halves.ensures.lower

pub returns-clause-second : goal.returns-clause-second
returns-clause-second c =
    let box = c.args.self.now in
    let v = c.widest-v.result in
    let d = get_or c.doms.result.now v no_domain in
    let several = several_at box c.doms.result.now v c.doms.ensures.kept.values c.requires c.widest-v.ensures c.doms.ensures.domains in
    is_second_half box v d c.halves.result.1 c.set.new.self several c.widest-v.ensures (ap (λ ds. get_or ds v no_domain) c.doms.ensures.domains) c.set.ensures c.halves.ensures.upper
