-- What loading a problem asks of its two files.
-- Used by `load_problem`.
use Rattle.std.proofs.Common.{◌≡◌, ℕ, List, [], ◌∷◌, min, Option, Some, None, MatchOption, IfSome, Ok, sym, ap, ◌∙◌, subst}
use Rattle.std.specs.Option.{option_map_or}
use Rattle.source_io.specs.Asked.{Asks, Read, asked_under}
use Rattle.source_io.specs.Told.{SizeIs}
use Rattle.source_io.specs.Files.{Files, file_of, bytes_at}
use Rattle.layouts.specs.declared.layout.Layout.{Layout}
use Rattle.array_file.specs.Reads.{ReadsHeader}
use Rattle.chunk_store.specs.Pieces.{AsksPieces}
use Rattle.query_model.specs.declared.query.Query.{Query}
use Rattle.query_text.specs.Walk.{walk}
use Rattle.report.specs.declared.ending.Refusal.TheVariants as refusal
use Rattle.search_run.specs.Problem.{LoadsQuery, AsksArray, AsksQuery, problem_refusal, problem_reads, query_refusal, query_parts, stated_query}
use Rattle.search_run.specs.Reads.{AsksFiles, AsksOf, array_parts}
use Rattle.search_run.proofs.Asking.{files_more, header_asked, cells_asked}

-- neither file is refused, if both are told
abbrev Accepted : Option (List ℕ) → Option (List ℕ) → Type 0
Accepted array query = MatchOption array (Unit {0}) (λ a. MatchOption query (Unit {0}) (λ q. problem_refusal a q ≡ None))

accepted : (array query : Option (List ℕ)) (l : Layout) (q : Query) → ReadsHeader array (Ok l) → LoadsQuery l.rank query (Ok q) → Accepted array query
accepted None query l q h k = tt
accepted (Some a) None l q h k = tt
accepted (Some a) (Some b) l q h k =
    ap (λ o. option_map_or (λ r. Some (refusal.Array r)) o (query_refusal (stated_query a b))) h.0 ∙ ap query_refusal (ap (λ (m : Layout). walk m.rank b) (sym h.1) ∙ k.1)

-- ---- the array file

pub array_header : (array query : Option (List ℕ)) (size len : ℕ) (old new : Option (List (ℕ × ℕ))) → size ≡ len → SizeIs array size → Asks old new 0 (min 96 len) → AsksArray array query old new
array_header None query size len old new same told asked = tt
array_header (Some a) None size len old new same told asked = tt
array_header (Some a) (Some q) size len old new same told asked = header_asked (λ b. problem_refusal b q) (Some a) size len old new same told asked

pub array_cells : (array query : Option (List ℕ)) (size len end rank : ℕ) (l : Layout) (q : Query) (old mid new : Option (List (ℕ × ℕ))) → size ≡ len → SizeIs array size → end ≡ len → ReadsHeader array (Ok l)
    → rank ≡ l.rank → LoadsQuery rank query (Ok q) → Asks old mid 0 (min 96 len) → AsksPieces mid new 96 end → AsksArray array query old new
array_cells None query size len end rank l q old mid new same told whole h is k header cells = tt
array_cells (Some a) None size len end rank l q old mid new same told whole h is k header cells = tt
array_cells (Some a) (Some b) size len end rank l q old mid new same told whole h is k header cells =
    cells_asked (λ a. problem_refusal a b) (Some a) size len end old mid new same told whole (accepted (Some a) (Some b) l q h (subst (λ r. LoadsQuery r (Some b) (Ok q)) is k)) header cells

-- ---- both

-- the array file was opened, the problem was loaded from it, and it was handed back
pub problem_asked : (held : Option Files) (array query : List ℕ) (bytes found told_name : Option (List ℕ)) (before after : Option (List (ℕ × ℕ))) (old lent mid new : Option (List Read)) → bytes ≡ file_of held array
    → found ≡ file_of held query → lent ≡ old → AsksQuery bytes found query lent mid → IfSome told_name (λ n. n ≡ array) → IfSome before (λ reads. reads ≡ []) → AsksArray bytes found before after
    → new ≡ asked_under told_name after mid → AsksOf (problem_reads array query) held old new
problem_asked None array query bytes found told_name before after old lent mid new same same_query unread first named fresh asked is = tt
problem_asked (Some files) array query bytes found told_name before after old lent mid new same same_query unread first named fresh asked is =
    let a = bytes_at files array in
    let q = bytes_at files query in
    let first_asked : AsksQuery (Some a) (Some q) query lent mid = subst (λ told. AsksQuery (Some a) told query lent mid) same_query (subst (λ told. AsksQuery told found query lent mid) same first) in
    let then_asked : AsksArray (Some a) (Some q) before after = subst (λ told. AsksArray (Some a) told before after) same_query (subst (λ told. AsksArray told found before after) same asked) in
    files_more ((query, query_parts a q) ∷ []) array (array_parts (problem_refusal a q) a) told_name before after old mid new
    (subst (λ o. AsksFiles ((query, query_parts a q) ∷ []) o mid) unread first_asked) named fresh then_asked is
