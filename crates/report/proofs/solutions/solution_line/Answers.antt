use Rattle.std.proofs.Common.{rules, ◌≡◌, ◌==◌, ◌++◌, ◌∙◌, ap, sym, length, get_or, pos, [], if◌then◌else◌, codes, to_z, of_z, arith}
use mir.Syntax.{w32}
use Rattle.query_model.specs.Text.{field_of}
use Rattle.query_model.specs.declared.parts.Variable.{Variable}
use Rattle.report.proofs.Lines.{joined, line-more}
use Rattle.report.proofs.solutions.solution_line.Goals as goal

-- a filler for indices past the last variable
no_variable : Variable
no_variable = record { name = record { len = 0; bytes = [] }; from = pos 0; to = pos 0 }

pub loop-i-preserved : goal.loop-i-preserved
unfolding no_variable
loop-i-preserved c =
    let i = c.loop-i.i in
    let vs = c.variables-variables.result.now in
    let p = c.args.point.now in
    let same : length p ≡ length vs = c.requires ∙ ap length (sym c.variables-variables.ensures.variables) in
    let value : to_z w32 (of_z w32 c.value.result) ≡ get_or p i (pos 0) = search rules in
    let spaced : c.push_space.new.line ≡ (if i == 0 then joined i vs p else joined i vs p ++ codes " ") = c.push_space.ensures.text ∙ ap (λ l. if i == 0 then l else l ++ codes " ") c.loop-i.invariant.text in
    record {
      text = c.push_field.ensures.text ∙ (λ j. spaced j ++ field_of (get_or vs i no_variable) (value j)) ∙ line-more vs p no_variable i same c.loop-i-test.true;
      short = omega (arith, c.loop-i.invariant.short, c.push_space.ensures.short, c.push_field.ensures.short);
    }
