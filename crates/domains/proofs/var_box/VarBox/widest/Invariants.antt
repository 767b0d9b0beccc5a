use Rattle.std.proofs.Common.{◌≡◌, ◌≤◌, drop, length}
use Rattle.domains.specs.Splits.{widest}
use Rattle.domains.proofs.Widest.{widest_from}
use Rattle.domains.proofs.var_box.VarBox.widest.Given as goal

abbrev pub invariant-loop-v : goal.invariant-loop-v
invariant-loop-v l =
    record {
      rest : widest_from l.best l.most l.v (drop l.v l.doms) ≡ widest l.self;
      within : l.v ≤ length l.self;
    }
