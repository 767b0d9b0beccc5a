use Rattle.std.proofs.Common.{◌≡◌, true, false, string_bytes, Some, sym, ap, ◌∙◌, drop_of_length-le}
use Rattle.std.specs.Str.{bytes_eq}
use Rattle.std.specs.FinMap.{get, get-empty}
use Rattle.std.specs.Ordering.{nat_cmp}
use Rattle.std.specs.Cmp.Lexicographic.{slice_cmp}
use Rattle.source_io.specs.Files.{files_of}
use Rattle.source_io.proofs.Finding.{found, passed}
use Rattle.source_io.proofs.mem_shelf.find_file.Goals as goal

pub returns-then-eq : goal.returns-then-eq
returns-then-eq c =
    let file = c.loop-file_name-item.result in
    let same : bytes_eq c.args.name.now (string_bytes file.0) ≡ true = cc in
    let at = found c.args.name.now c.args.files.now c.loop-file_name.file_name-index file c.loop-file_name-test.true c.loop-file_name-item.is same in
    ap Some c.as_slice.ensures.value ∙ sym (c.loop-file_name.invariant ∙ at)

pub loop-file_name-preserved : goal.loop-file_name-preserved
loop-file_name-preserved c =
    let file = c.loop-file_name-item.result in
    let other : bytes_eq c.args.name.now (string_bytes file.0) ≡ false = cc in
    c.loop-file_name.invariant ∙ passed c.args.name.now c.args.files.now c.loop-file_name.file_name-index file c.loop-file_name-test.true c.loop-file_name-item.is other

pub returns : goal.returns
returns c =
    sym (
    c.loop-file_name.invariant
    ∙ ap (λ files. get (files_of files) c.args.name.now) (drop_of_length-le c.args.files.now c.loop-file_name-test.false)
    ∙ get-empty (slice_cmp nat_cmp) c.args.name.now)
