use Rattle.std.proofs.Common.{◌≡◌, ◌∙◌, ap, sym, arith, Ok, Option, List, ℕ}
use Rattle.array_text.specs.Reads.{rest_of}
use Rattle.array_text.proofs.Levels as levels
use Rattle.array_text.proofs.layout.read_levels.Goals as goal

pub returns-in-Err : goal.returns-in-Err
returns-in-Err c =
    let l = c.loop-count in
    sym l.invariant ∙ levels.levels_from-err c.args.rank l.count l.blocks (rest_of l.text.next l.text.bytes.now) c.in-Err.refusal c.loop-count-test.true c.in-Err.ensures

pub returns-in-Ok-None-default : goal.returns-in-Ok-None-default
returns-in-Ok-None-default c =
    let l = c.loop-count in
    let found = c.in-Ok-None-default in
    let after = rest_of found.after.next found.after.bytes.now in
    sym l.invariant ∙ levels.levels_from-end c.args.rank l.count l.blocks (rest_of l.text.next l.text.bytes.now) after c.loop-count-test.true
    (found.ensures ∙ ap (λ (o : Option (List ℕ)). Ok (o, after)) found.field-0-0-is)

pub loop-count-preserved : goal.loop-count-preserved
loop-count-preserved c =
    let l = c.loop-count in
    let found = c.in-Ok-Some-default in
    let after = rest_of found.after.next found.after.bytes.now in
    sym
    (levels.levels_from-more c.args.rank l.count l.blocks (rest_of l.text.next l.text.bytes.now) after found.block c.loop-count-test.true
    (found.ensures ∙ ap (λ (o : Option (List ℕ)). Ok (o, after)) found.field-0-0-is))
    ∙ l.invariant

pub returns-in-Err-read_word : goal.returns-in-Err-read_word
returns-in-Err-read_word c =
    let l = c.loop-count in
    let all : l.count ≡ 4 = omega (arith, c.loop-count-test.false, l.auto.count-end) in
    sym l.invariant ∙ levels.levels_from-none-err c.args.rank l.count l.blocks (rest_of l.text.next l.text.bytes.now) c.in-Err-read_word.refusal all c.in-Err-read_word.ensures

pub returns-in-Ok : goal.returns-in-Ok
returns-in-Ok c =
    let l = c.loop-count in
    let all : l.count ≡ 4 = omega (arith, c.loop-count-test.false, l.auto.count-end) in
    let after = rest_of c.in-Ok.after.next c.in-Ok.after.bytes.now in
    sym l.invariant ∙ levels.levels_from-none-ok c.args.rank l.count l.blocks (rest_of l.text.next l.text.bytes.now) after all c.in-Ok.ensures
