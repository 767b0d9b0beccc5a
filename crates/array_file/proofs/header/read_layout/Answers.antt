use Rattle.std.proofs.Common.{List, ℕ, Some, slice_index, sym, ap, ◌∙◌, arith}
use Rattle.layouts.specs.declared.numbers.LayoutNumbers.{LayoutNumbers}
use Rattle.lists.specs.Rules.{first_broken}
use Rattle.layouts.specs.Rules.{layout_rules}
use Rattle.array_file.specs.declared.refusal.FileRefusal.TheVariants.{Version, WrongLength}
use Rattle.array_file.specs.Header.{file_size}
use Rattle.array_file.proofs.Headers.{layout_in-numbers, layout_refusal-short, layout_refusal-magic, layout_refusal-version, layout_refusal-layout, layout_refusal-length, layout_refusal-none}
use Rattle.array_file.proofs.header.read_layout.Goals as goal

pub returns-then-bytes-lt-HEADER_BYTES-clause-exactly : goal.returns-then-bytes-lt-HEADER_BYTES-clause-exactly
returns-then-bytes-lt-HEADER_BYTES-clause-exactly c = layout_refusal-short c.args.bytes.now c.args.size (omega arith)

pub returns-then-not-starts_with-clause-exactly : goal.returns-then-not-starts_with-clause-exactly
returns-then-not-starts_with-clause-exactly c =
    layout_refusal-magic c.args.bytes.now c.args.size (omega arith) (sym c.starts_with.ensures.value ∙ c.if-not-starts_with.true)

pub returns-then-version-ne-VERSION-clause-exactly : goal.returns-then-version-ne-VERSION-clause-exactly
returns-then-version-ne-VERSION-clause-exactly c =
    let header = c.args.bytes.now in
    let same = c.numbers-numbers.ensures in
    layout_refusal-version header c.args.size (omega arith) (sym c.starts_with.ensures.value ∙ c.if-not-starts_with.false)
    (λ one. c.if-version-ne-VERSION.true (ap (λ (ns : List ℕ). slice_index ns 0) same ∙ one))
    ∙ ap (λ (ns : List ℕ). Some (Version (slice_index ns 0))) (sym same)

pub returns-in-Err-clause-exactly : goal.returns-in-Err-clause-exactly
returns-in-Err-clause-exactly c =
    let header = c.args.bytes.now in
    let one = ap (λ (ns : List ℕ). slice_index ns 0) (sym c.numbers-numbers.ensures) ∙ c.if-version-ne-VERSION.false in
    let stored = layout_in-numbers header c.numbers-numbers.result c.numbers-numbers.ensures in
    layout_refusal-layout header c.args.size c.in-Err.refusal (omega arith) (sym c.starts_with.ensures.value ∙ c.if-not-starts_with.false) one
    (ap (λ (l : LayoutNumbers). first_broken (layout_rules l)) (sym stored) ∙ c.in-Err.ensures)

pub returns-then-size-stated-clause-exactly : goal.returns-then-size-stated-clause-exactly
returns-then-size-stated-clause-exactly c =
    let header = c.args.bytes.now in
    let one = ap (λ (ns : List ℕ). slice_index ns 0) (sym c.numbers-numbers.ensures) ∙ c.if-version-ne-VERSION.false in
    let stored = layout_in-numbers header c.numbers-numbers.result c.numbers-numbers.ensures in
    let kept = ap (λ (l : LayoutNumbers). first_broken (layout_rules l)) (sym stored) ∙ c.in-Ok.ensures.0 in
    let stated = c.file_size-stated.ensures ∙ ap file_size (c.in-Ok.ensures.1 ∙ stored) in
    layout_refusal-length header c.args.size (omega arith) (sym c.starts_with.ensures.value ∙ c.if-not-starts_with.false) one kept
    (λ whole. c.if-size-stated.true (whole ∙ sym stated))
    ∙ ap (λ (n : ℕ). Some (WrongLength n c.args.size)) (sym stated)

pub returns-clause-exactly : goal.returns-clause-exactly
returns-clause-exactly c =
    let header = c.args.bytes.now in
    let one = ap (λ (ns : List ℕ). slice_index ns 0) (sym c.numbers-numbers.ensures) ∙ c.if-version-ne-VERSION.false in
    let stored = layout_in-numbers header c.numbers-numbers.result c.numbers-numbers.ensures in
    let kept = ap (λ (l : LayoutNumbers). first_broken (layout_rules l)) (sym stored) ∙ c.in-Ok.ensures.0 in
    let is_layout = c.in-Ok.ensures.1 ∙ stored in
    let whole = c.if-size-stated.false ∙ c.file_size-stated.ensures ∙ ap file_size is_layout in
    (layout_refusal-none header c.args.size (omega arith) (sym c.starts_with.ensures.value ∙ c.if-not-starts_with.false) one kept whole, is_layout)
