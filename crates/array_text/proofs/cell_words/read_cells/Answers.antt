use Rattle.std.proofs.Common.{◌≡◌, ◌+◌, ◌-◌, ◌++◌, ◌∷◌, [], ◌∙◌, ap, sym, arith, length, length-append}
use Rattle.array_text.specs.Reads.{rest_of}
use Rattle.array_text.specs.Walk.{cells_from}
use Rattle.array_text.proofs.Levels as levels
use Rattle.array_text.proofs.cell_words.read_cells.Goals as goal

pub returns-in-Err-clause-walk : goal.returns-in-Err-clause-walk
returns-in-Err-clause-walk c =
    let l = c.loop in
    sym l.invariant.walk ∙ levels.cells_from-err c.args.count l.counter l.cells.items (rest_of l.text.next l.text.bytes.now) c.in-Err.refusal c.loop-test.true c.in-Err.ensures.walk

pub loop-preserved : goal.loop-preserved
loop-preserved c =
    let l = c.loop in
    let found = c.in-Ok-read_cell in
    let after = rest_of found.after.next found.after.bytes.now in
    let items : c.push_reserved.new.self.items ≡ l.cells.items ++ found.cell ∷ [] = c.push_reserved.ensures.items in
    record {
      walk = ap (λ cells. cells_from (c.args.count - (l.counter + 1)) cells after) items
          ∙ sym (levels.cells_from-more c.args.count l.counter l.cells.items (rest_of l.text.next l.text.bytes.now) after found.cell c.loop-test.true found.ensures.walk)
          ∙ l.invariant.walk;
      count = ap length items ∙ length-append l.cells.items (found.cell ∷ []) ∙ ap (λ n. n + 1) l.invariant.count;
      left = omega (arith, l.invariant.left, found.ensures.shorter);
      room = omega (arith, l.invariant.room, c.push_reserved.ensures.capacity);
    }

pub returns-clause-walk : goal.returns-clause-walk
returns-clause-walk c =
    let l = c.loop in
    let all : c.args.count ≡ l.counter = omega (arith, c.loop-test.false, l.auto.counter-end) in
    sym l.invariant.walk ∙ levels.cells_from-end c.args.count l.counter l.cells.items (rest_of l.text.next l.text.bytes.now) all
