use Rattle.std.proofs.Common.{◌*◌, ◌/◌, ◌∙◌, ap, sym, take, drop, length, filter_map}
use Rattle.std.specs.List.{sum_by}
use Rattle.std.proofs.lemmas.List.{take-append-drop}
use Rattle.std.proofs.lemmas.List.Elements.{filter_map-append}
use Rattle.cells.specs.Cells.{cell_value}
use Rattle.cell_fold.specs.Lanes.{cells_of_eights}
use Rattle.cells.specs.Records.{record_of}
use Rattle.cell_fold.proofs.LaneRecords.{cells_of_eights-first_chunks}
use Rattle.cell_fold.proofs.lanes.part_record.Goals as goal

pub returns-else-cells-lt24-clause-record : goal.returns-else-cells-lt24-clause-record
returns-else-cells-lt24-clause-record c =
    let cells = c.args.cells.now in
    let k = length cells / 8 in
    let first = c.eights_record.ensures.record ∙ ap (λ eights. record_of (filter_map cell_value (cells_of_eights eights))) c.as_chunks.ensures.front ∙ ap (λ l. record_of (filter_map cell_value l)) (cells_of_eights-first_chunks k cells) in
    let back = c.fold-else-cells-lt24.ensures.record ∙ ap (λ l. record_of (filter_map cell_value l)) c.as_chunks.ensures.back in
    let whole = sym (filter_map-append cell_value (take (k * 8) cells) (drop (k * 8) cells)) ∙ ap (filter_map cell_value) (take-append-drop (k * 8) cells) in
    c.merge.ensures.meant (filter_map cell_value (take (k * 8) cells)) (filter_map cell_value (drop (k * 8) cells)) (filter_map cell_value cells) first back (λ weight. ap (sum_by weight) (sym whole))
