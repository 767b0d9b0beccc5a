use Rattle.std.proofs.Common.{ℕ, ◌∙◌, sym, arith, length-take}
use Rattle.array_file.proofs.Told.{on_ok_then, accepted, refused, asks_to}
use Rattle.array_file.proofs.header.read_header.Goals as goal

pub returns-in-Err-clause-read : goal.returns-in-Err-clause-read
returns-in-Err-clause-read g c =
    let told = (g.S.ByteSource.file c.args.src.now).bytes in
    let held = on_ok_then c.read_whole.result (sym c.is_err.ensures.value ∙ c.if-is_err.false) c.read_whole.ensures.bytes in
    refused told c.read_whole.new.into c.size-size.result _ c.in-Err.refusal c.size-size.ensures.told (omega (arith, c.min.ensures, length-take {A = ℕ})) held c.in-Err.ensures.exactly

pub returns-in-Ok-clause-read : goal.returns-in-Ok-clause-read
returns-in-Ok-clause-read g c =
    let told = (g.S.ByteSource.file c.args.src.now).bytes in
    let held = on_ok_then c.read_whole.result (sym c.is_err.ensures.value ∙ c.if-is_err.false) c.read_whole.ensures.bytes in
    accepted told c.read_whole.new.into c.size-size.result _ c.in-Ok.layout c.size-size.ensures.told (omega (arith, c.min.ensures, length-take {A = ℕ})) held c.in-Ok.ensures.exactly.0 c.in-Ok.ensures.exactly.1

pub returns-in-Ok-clause-asked : goal.returns-in-Ok-clause-asked
returns-in-Ok-clause-asked g c =
    asks_to _ _ _ _ (omega (arith, c.min.ensures, c.size-size.ensures.size, length-take {A = ℕ})) c.read_whole.ensures.asked
