use Rattle.std.proofs.Common.{rules, ◌≡◌, ◌++◌, ◌∙◌, codes, to_z, of_z}
use Rattle.std.specs.Fmt.{signed_decimal}
use mir.Syntax.{w32, w64}
use Rattle.report.proofs.InfoText.{three_named}
use Rattle.report.proofs.info.push_extremes.Goals as goal

pub returns-clause-text : goal.returns-clause-text
returns-clause-text c =
    let r = c.args.cells in
    let least : to_z w64 (of_z w64 (to_z w32 (of_z w32 r.least))) ≡ r.least = search rules in
    let greatest : to_z w64 (of_z w64 (to_z w32 (of_z w32 r.greatest))) ≡ r.greatest = search rules in
    let sum : to_z w64 (of_z w64 r.sum) ≡ r.sum = search rules in
    three_named c.args.line.now c.push_named.new.line c.push_named-2.new.line c.push_named-3.new.line (codes " least ") _ (codes " greatest ") _ (codes " sum ") _
    c.push_named.ensures.text c.push_named-2.ensures.text c.push_named-3.ensures.text
    ∙ (λ j. c.args.line.now ++ (codes " least " ++ signed_decimal (least j) ++ codes " greatest " ++ signed_decimal (greatest j) ++ codes " sum " ++ signed_decimal (sum j)))
