use Rattle.std.proofs.Common.{arith}
use Rattle.array_file.proofs.Headers.{put_header}
use Rattle.array_file.proofs.header.write_layout.Goals as goal

pub returns : goal.returns
returns c =
    let l = c.args.layout.now in
    put_header l c.args.into.now c.copy_from_slice.new.self c.numbers_of.result c.write_u32_into.new.dst (omega arith) c.copy_from_slice.ensures.after
    c.numbers_of.ensures c.write_u32_into.ensures
