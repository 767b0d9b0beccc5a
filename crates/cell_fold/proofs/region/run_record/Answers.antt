use Rattle.std.proofs.Common.{rules, ◌≡◌, ◌*◌, ◌-◌, ◌∙◌, ap, take, drop, filter_map, SFits, w64, unsigned_abs}
use Rattle.std.proofs.lemmas.Int.{to_z-of_z}
use Rattle.cells.specs.Cells.{cell_value}
use Rattle.cells.specs.Records.{record_of}
use Rattle.cell_fold.proofs.Passes.{times-sub}
use Rattle.cell_fold.proofs.region.run_record.Goals as goal

pub returns-clause-record : goal.returns-clause-record
returns-clause-record c =
    let from_fits : SFits w64 c.args.side.now.from = search rules in
    let to_fits : SFits w64 c.args.side.now.to = search rules in
    let is = simp to_z-of_z at c.fold_lanes.ensures.record in
    let size : unsigned_abs c.args.side.now.to * c.args.size - unsigned_abs c.args.side.now.from * c.args.size ≡ (unsigned_abs c.args.side.now.to - unsigned_abs c.args.side.now.from) * c.args.size = times-sub (unsigned_abs c.args.side.now.to) (unsigned_abs c.args.side.now.from) c.args.size in
    is ∙ ap (λ n. record_of (filter_map cell_value (take n (drop (unsigned_abs c.args.side.now.from * c.args.size) c.args.cells.now)))) size
