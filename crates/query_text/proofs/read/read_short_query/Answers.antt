use Rattle.std.proofs.Common.{rules, subst, sym}
use Rattle.query_model.specs.QueryParts.{QueryParts}
use Rattle.query_text.specs.Reads.{Gives}
use Rattle.query_text.proofs.JsonBytes.{walk_bytes-value, walk_bytes-none}
use Rattle.query_text.proofs.read.read_short_query.Goals as goal

pub returns-in-Ok : goal.returns-in-Ok
returns-in-Ok c = subst (λ w. Gives (λ (q : QueryParts). q) w c.read_value.result) (sym (walk_bytes-value c.args.rank c.args.bytes.now _ c.in-Ok.ensures.ok.0 c.in-Ok.ensures.ok.1)) c.read_value.ensures

pub returns-else-is_memory : goal.returns-else-is_memory
returns-else-is_memory c =
    walk_bytes-none c.args.rank c.args.bytes.now (c.in-Err.ensures.err (λ m. let is_memory = c.is_memory.ensures.1 m in let not_memory = c.if-is_memory.false in absurd (search rules)))
