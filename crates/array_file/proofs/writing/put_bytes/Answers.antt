use Rattle.std.proofs.Common.{rules, ◌≡◌, ◌+◌, ◌*◌, ◌-◌, ◌++◌, drop, get_or, pos, ap, ◌∙◌, arith, to_z, of_z}
use mir.Syntax.{w32}
use borrow.Rule.Slice.PartMut.{mid_of}
use Rattle.byteorder.specs.Endian.{little_bytes}
use Rattle.cells.specs.declared.cell.Cell.{Cell}
use Rattle.array_file.proofs.Writings.{bytes_put_none, bytes_put}
use Rattle.array_file.proofs.writing.put_bytes.Goals as goal

pub loop-k-init : goal.loop-k-init
loop-k-init c = bytes_put_none c.args.cells.now c.args.bytes.now

pub loop-k-preserved : goal.loop-k-preserved
loop-k-preserved c =
    let k = c.loop-k.k in
    let d : Cell = record { 0 = pos 0 } in
    let cell = get_or c.args.cells.now k d in
    let value : of_z w32 (to_z w32 (of_z w32 cell.0)) ≡ of_z w32 cell.0 = search rules in
    bytes_put c.args.cells.now c.args.bytes.now c.loop-k.bytes c.write_i32.new.buf k (4 * k + 4 - 4 * k) d c.requires c.loop-k-test.true (omega arith) c.loop-k.invariant (c.write_i32.ensures ∙ ap (λ x. little_bytes 4 x ++ drop 4 (mid_of (4 * k) (4 * k + 4 - 4 * k) c.loop-k.bytes)) value)
