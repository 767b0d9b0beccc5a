use Rattle.std.proofs.Common.{rules, ◌≡◌, pos, unwrap_or, to_z, of_z, w64, arith}
use Rattle.query_text.proofs.Terms.{expr_seen}
use Rattle.query_text.proofs.sum.Sum.expr.Goals as goal

pub returns : goal.returns
returns c =
    let value : to_z w64 (of_z w64 c.unwrap_or.result) ≡ unwrap_or c.self.inside.constant (pos 0) = search rules in
    expr_seen c.self.inside.constant _ c.self.inside.count c.self.inside.terms c.args.self.now c.self.view_is (omega arith) c.self.invariant.2 value
