use Rattle.std.proofs.Common.{rules, ◌∷◌, [], ap, ◌∙◌}
use Rattle.lists.specs.Appending.{appended}
use Rattle.lists.proofs.Appending.{appended-appended, prefix_after, prefix_within}
use Rattle.source_io.specs.Shelf.{ShelfState}
use Rattle.search_run.proofs.Packing.{leaves_packed}
use Rattle.search_run.proofs.pack.pack.Goals as goal

pub returns-in-Ok-clause-runs : goal.returns-in-Ok-clause-runs
returns-in-Ok-clause-runs g c =
    let old : ShelfState = g.F.Shelf.state c.args.shelf.now in
    let loaded : ShelfState = g.F.Shelf.state c.load_file.new.shelf in
    let new : ShelfState = g.F.Shelf.state c.make_array.new.shelf in
    record {
      verdict = search rules;
      made = search rules;
      left = leaves_packed old.holds new.holds c.args.text.now c.args.array.now c.in-Ok.read c.make_array.result c.in-Ok.ensures.value (search rules) (search rules) (search rules);
      unmade = search rules;
      read_fault = search rules;
      no_read_fault = search rules;
      no_write_fault = search rules;
      asked = search rules;
      opened = prefix_after old.opened loaded.opened new.opened (c.args.text.now ∷ []) (c.args.array.now ∷ []) c.in-Ok.ensures.all_opened c.make_array.ensures.opened;
      all_opened = λ done. c.make_array.ensures.all_opened done ∙ ap (λ known. appended known (c.args.array.now ∷ [])) c.in-Ok.ensures.all_opened ∙ appended-appended old.opened (c.args.text.now ∷ []) (c.args.array.now ∷ []);
      lent = search rules;
      making = search rules;
    }

pub returns-in-Err-clause-runs : goal.returns-in-Err-clause-runs
returns-in-Err-clause-runs g c =
    let old : ShelfState = g.F.Shelf.state c.args.shelf.now in
    let new : ShelfState = g.F.Shelf.state c.load_file.new.shelf in
    record {
      verdict = search rules;
      made = search rules;
      left = search rules;
      unmade = search rules;
      read_fault = search rules;
      no_read_fault = search rules;
      no_write_fault = search rules;
      asked = search rules;
      opened = prefix_within old.opened new.opened (c.args.text.now ∷ []) (c.args.array.now ∷ []) c.in-Err.ensures.opens.opened;
      all_opened = search rules;
      lent = search rules;
      making = search rules;
    }
