use Rattle.std.proofs.Common.{◌≡◌, ◌<◌, ◌-◌, ◌*◌, ◌∙◌, ap, drop, length, length-drop, arith}
use Rattle.std.proofs.lemmas.List.{take_all}
use Rattle.std.proofs.lemmas.List.FromFn.{fill_by_all}
use Rattle.byteorder.specs.Endian.{little_number}
use Rattle.array_file.specs.Header.{header_number, header_numbers}
use Rattle.array_file.proofs.header.numbers.Goals as goal

pub returns : goal.returns
unfolding header_numbers
returns c =
    let header = c.args.header.now in
    let dst = c.read_u32_into.new.dst in
    let long : length dst ≡ 21 = omega (arith, c.read_u32_into.auto.dst) in
    let rest = take_all (length header - 12) (drop 12 header) (omega (arith, length-drop 12 header, c.requires)) in
    fill_by_all (header_number header) dst 21 0 long
    (λ k below. let b : k < length dst = omega arith in c.read_u32_into.ensures k b ∙ ap (λ l. little_number 4 (drop (4 * k) l)) rest)
