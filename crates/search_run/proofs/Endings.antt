-- How a command ends, if its files were loaded and if they were not.
-- Used by `list_solutions` and `info`.
use Rattle.std.proofs.Common.{◌≡◌, ℕ, List, [], Option, Some, None, Ok, MatchOption, refl, sym, ap, ◌∙◌, subst}
use Rattle.std.specs.Option.{option_map_or}
use Rattle.source_io.specs.Files.{Files, file_of, bytes_at}
use Rattle.lists.specs.Appending.{appended, AppendsPrefix}
use Rattle.lists.proofs.Appending.{prefix_nothing}
use Rattle.cells.specs.Cells.{array_of}
use Rattle.cells.specs.declared.cell.Cell.{Cell}
use Rattle.array_file.specs.Stored.{stored_array}
use Rattle.domains.specs.Points.{Point}
use Rattle.query_model.specs.Answer.{answer}
use Rattle.query_model.specs.Text.{lines_of, text_of}
use Rattle.report.specs.declared.ending.Ending.{Ending}
use Rattle.search_run.specs.Meaning.{told_output_of}
use Rattle.search_run.specs.Ends.{Prints, PrintsWhole, PrintsPrefix}
use Rattle.search_run.specs.Problem.{stated_query, query_output, listing, LoadsProblem}
use Rattle.search_run.specs.Stops.{ending_of}
use Rattle.search_run.specs.declared.problem.Problem.{Problem}
use Rattle.search_run.specs.declared.stop.Stop.{Stop}
use Rattle.search_run.specs.declared.stop.Stop.TheVariants.{Refused, Failed}

-- if nothing is printed, a prefix is
nothing_prints_prefix : (whole old : Option (List ℕ)) → MatchOption whole (Unit {0}) (λ bytes. AppendsPrefix old bytes old)
nothing_prints_prefix None old = tt
nothing_prints_prefix (Some bytes) old = prefix_nothing old bytes

-- nothing is printed if a step was stopped
pub stop_prints_nothing : (whole old : Option (List ℕ)) (s : Stop) (e : Ending) → e ≡ ending_of s → Prints e whole old old
stop_prints_nothing whole old (Refused r) e is = subst (λ ending. Prints ending whole old old) (sym is) refl
stop_prints_nothing whole old (Failed f) e is = subst (λ ending. Prints ending whole old old) (sym is) (nothing_prints_prefix whole old)

-- what is printed for a problem that was loaded is the text of its files
text_loaded : (held : Option Files) (array query : List ℕ) (p : Problem) (cells : List Cell) (points : List Point) → LoadsProblem (file_of held array) (file_of held query) (Ok p) → cells ≡ p.cells.items
    → points ≡ answer (array_of p.query.rank p.shape.extents cells) p.query
    → MatchOption (told_output_of held (listing array query)) (Unit {0}) (λ bytes. lines_of p.query points ≡ bytes)
text_loaded None array query p cells points h same found = tt
text_loaded (Some files) array query p cells points h same found =
    let a = stored_array (bytes_at files array) in
    let read = stated_query (bytes_at files array) (bytes_at files query) in
    let is_array : array_of p.query.rank p.shape.extents cells ≡ a = (λ i. array_of (h.0.1 i) p.shape.extents (same i)) ∙ h.0.2 in
    let is_text : lines_of p.query points ≡ text_of a p.query = ap (lines_of p.query) (found ∙ ap (λ b. answer b p.query) is_array) in
    is_text ∙ ap (query_output a) (sym h.1) ∙ ap (λ o. option_map_or (λ r. []) o (query_output a read)) (sym h.0.0)

-- all of it, or a prefix of it
pub prints_whole : (held : Option Files) (array query : List ℕ) (p : Problem) (cells : List Cell) (points : List Point) (old new : Option (List ℕ)) → LoadsProblem (file_of held array) (file_of held query) (Ok p)
    → cells ≡ p.cells.items → points ≡ answer (array_of p.query.rank p.shape.extents cells) p.query → new ≡ appended old (lines_of p.query points) → PrintsWhole (told_output_of held (listing array query)) old new
prints_whole None array query p cells points old new h same found written = tt
prints_whole (Some files) array query p cells points old new h same found written = written ∙ ap (appended old) (text_loaded (Some files) array query p cells points h same found)

pub prints_prefix : (held : Option Files) (array query : List ℕ) (p : Problem) (cells : List Cell) (points : List Point) (old new : Option (List ℕ)) → LoadsProblem (file_of held array) (file_of held query) (Ok p)
    → cells ≡ p.cells.items → points ≡ answer (array_of p.query.rank p.shape.extents cells) p.query → AppendsPrefix old (lines_of p.query points) new → PrintsPrefix (told_output_of held (listing array query)) old new
prints_prefix None array query p cells points old new h same found written = tt
prints_prefix (Some files) array query p cells points old new h same found written =
    subst (λ bytes. AppendsPrefix old bytes new) (text_loaded (Some files) array query p cells points h same found) written
