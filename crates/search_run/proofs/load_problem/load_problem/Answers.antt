use Rattle.std.proofs.Common.{rules, ◌≡◌, ◌∷◌, [], IfSome, sym, ap, subst}
use Rattle.lists.specs.Appending.{AppendsPrefix}
use Rattle.lists.proofs.Appending.{prefix_after}
use Rattle.source_io.specs.Shelf.{ShelfState}
use Rattle.source_io.specs.Source.{StoredFile}
use Rattle.source_io.specs.Files.{file_of}
use Rattle.search_run.specs.Problem.{problem_reads}
use Rattle.search_run.proofs.Asking.{told_same}
use Rattle.search_run.proofs.Problems.{problem_asked}
use Rattle.search_run.proofs.load_problem.load_problem.Goals as goal

pub returns-clause-opens : goal.returns-clause-opens
returns-clause-opens g c =
    let old : ShelfState = g.F.Shelf.state c.args.shelf.now in
    let lent : ShelfState = g.F.Shelf.state c.open.new.self in
    let loaded : ShelfState = g.F.Shelf.state c.problem_from-problem.new.shelf in
    let array = c.args.array.now ∷ [] in
    let query = c.args.query.now ∷ [] in
    record {
      opened =
          subst (λ new. AppendsPrefix old.opened (c.args.array.now ∷ query) new) (sym c.close.ensures.opens_nothing.opened)
          (prefix_after old.opened lent.opened loaded.opened array query c.in_ok-source.ensures.opened c.problem_from-problem.ensures.opens.opened);
      faults = search rules;
      source_faults = search rules;
      lent = search rules;
      making = search rules;
      files = search rules;
    }

pub returns-in_err-source-clause-asked : goal.returns-in_err-source-clause-asked
returns-in_err-source-clause-asked g c = told_same (problem_reads c.args.array.now c.args.query.now) (g.F.Shelf.state c.args.shelf.now).holds _ _ c.open.ensures.takes_nothing_back.asked

pub returns-clause-asked : goal.returns-clause-asked
returns-clause-asked g c =
    let held = (g.F.Shelf.state c.args.shelf.now).holds in
    let named = subst (λ (file : StoredFile). IfSome file.name (λ n. n ≡ c.args.array.now)) (sym c.problem_from-problem.ensures.same_file) c.in_ok-source.ensures.name in
    problem_asked held c.args.array.now c.args.query.now _ _ _ _ _ _ _ _ _ c.in_ok-source.ensures.bytes (ap (λ told. file_of told c.args.query.now) c.open.ensures.finishes_nothing.holds)
    c.open.ensures.takes_nothing_back.asked c.problem_from-problem.ensures.asked_query
    named c.in_ok-source.ensures.fresh.1 c.problem_from-problem.ensures.asked_array c.close.ensures.asked
