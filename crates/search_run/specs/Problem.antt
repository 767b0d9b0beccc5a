-- What it means to list the solutions of a query on an array, and what loading the two answers.
-- Used by the commands that list solutions.
use Rattle.std.specs.Prelude.{◌≡◌, ℕ, List, [], ◌∷◌, Option, Some, None, Result, Ok, Err, MatchOption, ⊤, false}
use Rattle.std.specs.Option.{option_map_or}
use Rattle.source_io.specs.Asked.{Read}
use Rattle.source_io.specs.Files.{bytes_at, Files}
use Rattle.cells.specs.Array.{Array}
use Rattle.cells.specs.Cells.{array_of}
use Rattle.array_file.specs.Stored.{refusal_of, stored_array}
use Rattle.query_model.specs.QueryParts.{QueryParts}
use Rattle.query_model.specs.Text.{text_of}
use Rattle.query_model.specs.declared.query.Query.{Query}
use Rattle.query_text.specs.Walk.{Walked, walk, most_bytes}
use Rattle.report.specs.declared.ending.Refusal.{Refusal}
use Rattle.report.specs.declared.ending.Refusal.TheVariants as refusal
use Rattle.search_run.specs.Meaning.{Meaning}
use Rattle.search_run.specs.Reads.{Parts, AsksParts, AsksFiles, whole_up_to, array_parts}
use Rattle.search_run.specs.declared.problem.Problem.{Problem}
use Rattle.search_run.specs.declared.stop.Stop.{Stop}
use Rattle.search_run.specs.declared.stop.Stop.TheVariants.{Refused, Failed}

-- the query that a query file states for arrays of the rank of an array file, or its first refusal
abbrev pub stated_query : List ℕ → List ℕ → Walked QueryParts
stated_query array query = walk (stored_array array).rank query

-- the refusal of a query; none if it is read
abbrev pub query_refusal : Walked QueryParts → Option Refusal
query_refusal (Ok q) = None
query_refusal (Err r) = Some (refusal.Query r)

-- the lines of the solutions of a query on an array, and none if the query is refused
abbrev pub query_output : Array → Walked QueryParts → List ℕ
query_output a (Ok q) = text_of a q
query_output a (Err r) = []

-- the refusal of an array file, or otherwise of a query file
abbrev pub problem_refusal : List ℕ → List ℕ → Option Refusal
problem_refusal array query = option_map_or (λ r. Some (refusal.Array r)) (refusal_of array) (query_refusal (stated_query array query))

-- the lines of the solutions of the query in one file on the array in another, and none if one of them is refused
abbrev pub problem_output : List ℕ → List ℕ → List ℕ
problem_output array query = option_map_or (λ r. []) (refusal_of array) (query_output (stored_array array) (stated_query array query))

-- the parts of the query file that are read: nothing if the array file is refused, or if the query file is too long
abbrev pub query_parts : List ℕ → List ℕ → Parts
query_parts array query = option_map_or (λ r. []) (refusal_of array) (whole_up_to most_bytes query)

-- which parts of the two files are read. The query file is handed back first
abbrev pub problem_reads : List ℕ → List ℕ → Files → List (List ℕ × Parts)
problem_reads array query files =
    let a = bytes_at files array in
    let q = bytes_at files query in
    (query, query_parts a q) ∷ (array, array_parts (problem_refusal a q) a) ∷ []

-- to print the solutions of a query on an array
abbrev pub listing : List ℕ → List ℕ → Meaning
listing array query =
    record {
      refusal = λ files. problem_refusal (bytes_at files array) (bytes_at files query);
      output = λ files. problem_output (bytes_at files array) (bytes_at files query);
      makes_file = false;
      file = λ files. None;
      reads = problem_reads array query;
      openings = array ∷ query ∷ [];
    }

-- ---- loading

-- the query is for arrays of this rank. It is the one that the bytes state, or this is their refusal, if they are told
abbrev pub LoadsQuery : ℕ → Option (List ℕ) → Result Query Stop → Type 0
LoadsQuery rank told (Ok q) = (q.rank ≡ rank) × MatchOption told ⊤ (λ bytes. walk rank bytes ≡ Ok q)
LoadsQuery rank told (Err (Refused r)) = MatchOption told ⊤ (λ bytes. query_refusal (walk rank bytes) ≡ Some r)
LoadsQuery rank told (Err (Failed f)) = ⊤

-- the query is the one that a query file states for arrays of the rank of an array file, if both are told
abbrev pub IsStatedQuery : Option (List ℕ) → Option (List ℕ) → Query → Type 0
IsStatedQuery array query q = MatchOption array ⊤ (λ a. MatchOption query ⊤ (λ bytes. walk (stored_array a).rank bytes ≡ Ok q))

-- the array file is not refused, and the rank, the shape and the cells are its array's, if its bytes are told
abbrev pub LoadsArray : Option (List ℕ) → Problem → Type 0
LoadsArray told p = MatchOption told ⊤ (λ bytes. (refusal_of bytes ≡ None) × (p.query.rank ≡ (stored_array bytes).rank) × (array_of (stored_array bytes).rank p.shape.extents p.cells.items ≡ stored_array bytes))

-- the refusal is the first one of the two files, if both are told
abbrev pub IsProblemRefusal : Option (List ℕ) → Option (List ℕ) → Refusal → Type 0
IsProblemRefusal array query r = MatchOption array ⊤ (λ a. MatchOption query ⊤ (λ q. problem_refusal a q ≡ Some r))

-- the array and the query that the bytes state, or the first refusal of the two, if they are told
abbrev pub LoadsProblem : Option (List ℕ) → Option (List ℕ) → Result Problem Stop → Type 0
LoadsProblem array query (Ok p) = LoadsArray array p × IsStatedQuery array query p.query
LoadsProblem array query (Err (Refused r)) = IsProblemRefusal array query r
LoadsProblem array query (Err (Failed f)) = ⊤

-- of the array file, the header was asked for, and the cells only if neither file is refused, if both are told
abbrev pub AsksArray : Option (List ℕ) → Option (List ℕ) → Option (List (ℕ × ℕ)) → Option (List (ℕ × ℕ)) → Type 0
AsksArray array query old new = MatchOption array ⊤ (λ a. MatchOption query ⊤ (λ q. AsksParts (array_parts (problem_refusal a q) a) old new))

-- of the query file with this name, its parts were asked for, if both files are told
abbrev pub AsksQuery : Option (List ℕ) → Option (List ℕ) → List ℕ → Option (List Read) → Option (List Read) → Type 0
AsksQuery array query name old new = MatchOption array ⊤ (λ a. MatchOption query ⊤ (λ q. AsksFiles ((name, query_parts a q) ∷ []) old new))

-- these are the told bytes
abbrev pub IsTold : Option (List ℕ) → List ℕ → Type 0
IsTold told bytes = MatchOption told ⊤ (λ all. bytes ≡ all)
