-- The rank of a query that was read.
use Rattle.std.proofs.Common.{◌≡◌, ℕ, ◌^◌, List, Result, Ok, Err, IfOk, refl, subst, nat_lt, codes}
use Rattle.serde_json.specs.Data.{Data}
use Rattle.serde_json.specs.Find.{get}
use Rattle.query_model.specs.QueryParts.{QueryParts}
use Rattle.query_model.specs.declared.parts.Region.{Region}
use Rattle.query_model.specs.declared.parts.Variable.{Variable}
use Rattle.query_text.specs.declared.refusal.QueryRefusal.TheVariants.{NotJson, TooLarge}
use Rattle.query_text.specs.Json.{json_of}
use Rattle.query_text.specs.Locations as location
use Rattle.query_text.specs.declared.location.Part.{Part}
use Rattle.query_text.specs.declared.fault.QueryFault.{QueryFault}
use Rattle.query_text.specs.Reads.{Gives}
use Rattle.query_text.specs.Walk.{Walked, ◌>>=◌, or_refuse, refuse_if, walk_each, walk_object, walk_variable, walk_region, walk_constraints, walk_variables_part, walk_part, query_keys, point_count, walk_query_over, walk_parts, walk_query, walk_bytes}

-- a query that is given is for this rank
record IsFor (rank : ℕ) (walked : Walked QueryParts) : Type 0 where
  pub is : IfOk walked (λ q. q.rank ≡ rank)

-- what holds of the result of each next step holds of the result of the steps together
after : {X : Type 0} (rank : ℕ) (w : Walked X) (next : X → Walked QueryParts) → ((x : X) → IsFor rank (next x)) → IsFor rank (w >>= next)
after rank (Ok x) next h = h x
after rank (Err r) next h = record { is = tt }

walk_query_over-rank : (rank : ℕ) (variables : List Variable) (regions : List Region) (cs : List Data) → IsFor rank (walk_query_over rank variables regions cs)
unfolding walk_query_over
walk_query_over-rank rank variables regions cs =
    after rank (walk_constraints variables regions cs) _ (λ constraints. after rank (refuse_if (nat_lt (2 ^ 62) (point_count variables)) TooLarge) _ (λ _. record { is = refl }))

walk_parts-rank : (rank : ℕ) (vs rs cs : List Data) → IsFor rank (walk_parts rank vs rs cs)
unfolding walk_parts
walk_parts-rank rank vs rs cs =
    after rank (walk_each walk_variable vs) _ (λ variables. after rank (walk_each (walk_region rank variables) rs) _ (λ regions. walk_query_over-rank rank variables regions cs))

walk_query-rank : (rank : ℕ) (d : Data) → IsFor rank (walk_query rank d)
unfolding walk_query
walk_query-rank rank d =
    after rank (walk_object query_keys location.query d) _ (λ _. after rank (walk_variables_part (get (codes "variables") d)) _ (λ vs. after rank (walk_part 16 (location.part Part.Regions) (get (codes "regions") d)) _ (λ rs. after rank (walk_part 64 (location.part Part.Constraints) (get (codes "constraints") d)) _ (λ cs. walk_parts-rank rank vs rs cs))))

-- if reading gives what the walk for a rank gives, the query is for that rank
pub gives-rank : (rank : ℕ) (bytes : List ℕ) (r : Result QueryParts QueryFault) → Gives (λ (q : QueryParts). q) (walk_bytes rank bytes) r → IfOk r (λ q. q.rank ≡ rank)
gives-rank rank bytes (Ok q) h = (subst (IsFor rank) h (after rank (or_refuse NotJson (json_of bytes)) (walk_query rank) (walk_query-rank rank))).is
gives-rank rank bytes (Err f) h = tt
