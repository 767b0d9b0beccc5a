use Rattle.std.proofs.Common.{rules, ◌≡◌, ◌-◌, ◌∙◌, ap, take, drop, length, length-drop, arith, SFits, w32, ℤ}
use Rattle.std.proofs.lemmas.List.{take_all}
use Rattle.std.proofs.lemmas.Int.{to_z-of_z}
use Rattle.std.specs.Int.{cast_signed}
use Rattle.byteorder.specs.Endian.{little_number}
use Rattle.cells.specs.declared.cell.Cell.{Cell}
use Rattle.array_file.specs.Stored.{cell_at}
use Rattle.chunk_store.proofs.loading.cell.Goals as goal

pub returns : goal.returns
unfolding cell_at
returns c =
    let bytes = c.args.bytes.now in
    let at = c.args.at in
    let fits : SFits w32 c.read_i32.result = search rules in
    let rest : take (length bytes - at) (drop at bytes) ≡ drop at bytes = take_all (length bytes - at) (drop at bytes) (omega (arith, length-drop at bytes)) in
    let read : c.read_i32.result ≡ cast_signed w32 (little_number 4 (drop at bytes)) = c.read_i32.ensures ∙ ap (λ l. cast_signed w32 (little_number 4 l)) rest in
    let cell : ℤ → Cell = λ z. record { 0 = z } in
    ap cell (to_z-of_z w32 c.read_i32.result fits ∙ read)
