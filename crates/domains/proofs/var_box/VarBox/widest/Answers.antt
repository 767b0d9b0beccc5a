use Rattle.std.proofs.Common.{◌∙◌, ap, drop, get_or}
use Rattle.domains.specs.Splits.{no_domain}
use Rattle.domains.specs.Values.{size_of}
use Rattle.domains.proofs.Widest.{widest_from, widest_start}
use Rattle.domains.proofs.var_box.VarBox.widest.Goals as goal

pub loop-v-init : goal.loop-v-init
loop-v-init c =
    let same = c.doms-doms.ensures.domains in
    record {
      rest = ap (λ ds. widest_from 0 c.count-most.result 1 (drop 1 ds)) same
          ∙ widest_start c.args.self.now c.count-most.result no_domain c.requires (c.count-most.ensures.size ∙ ap (λ ds. size_of (get_or ds 0 no_domain)) same);
      within = c.requires;
    }
