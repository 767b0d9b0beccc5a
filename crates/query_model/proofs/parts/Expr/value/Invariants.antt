use Rattle.std.proofs.Common.{◌≡◌, ◌*◌, ◌^◌, take, map, ◌+ℤ◌}
use Rattle.lists.specs.Numbers.{sum_of, IsWithin}
use Rattle.query_model.specs.Value.{term_value}
use Rattle.query_model.proofs.parts.Expr.value.Given as goal

abbrev pub invariant-loop-t : goal.invariant-loop-t
invariant-loop-t l =
    let sum = sum_of (map (term_value l.p) (take l.t-index l.t-items)) in
    record {
      total : l.total ≡ l.self.constant +ℤ sum;
      within : IsWithin sum (2 ^ 51 * l.t-index);
    }
