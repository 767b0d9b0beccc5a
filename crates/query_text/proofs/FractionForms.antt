-- The numbers that aggregates are compared with: what is read is what the value stands for.
use Rattle.std.proofs.Common.{◌^◌, pos, List, arith}
use Rattle.std.proofs.lemmas.Int.{ints}
use Rattle.std.specs.Prelude.{Option, None, Some, option_and_then, codes}
use Rattle.std.specs.Option.{option_map_or}
use Rattle.serde_json.specs.Data.{Data}
use Rattle.serde_json.specs.Find.{get, as_integer}
use Rattle.query_model.specs.declared.parts.Agg.{Agg}
use Rattle.query_model.specs.declared.parts.Agg.TheVariants.{Sum, Min, Max, Count, Avg}
use Rattle.query_model.specs.Rules.{IsFraction, IsWhole}
use Rattle.query_text.specs.declared.location.Location.{Location}
use Rattle.query_text.specs.declared.refusal.QueryRefusal.{QueryRefusal}
use Rattle.query_text.specs.Form.{items_at, whole_at, whole_fraction_at, fraction_form, fraction_at}
use Rattle.query_text.specs.Json.{two_of, numbers_of}
use Rattle.query_text.specs.Walk.{whole_fraction, walk_number, walk_whole_fraction, walk_pair, walk_average, walk_fraction}
use Rattle.query_text.proofs.Agrees.{Agrees, agrees_found, agrees_map, agrees_two}
use Rattle.query_text.proofs.Numbers.{IsUpTo, IsBetween, agrees_between, agrees_whole, agrees_number, small_52}

module _ (whole : Type 0) (at : Location) where
  agrees_whole_fraction : (d : Data) → Agrees (IsFraction whole) (whole_fraction_at d) (walk_whole_fraction at (get (codes "to") d))
  agrees_whole_fraction d =
      agrees_map (IsUpTo (2 ^ 52)) (IsFraction whole) (whole_at (codes "to") d) (walk_number (2 ^ 52) at (get (codes "to") d)) whole_fraction
      (agrees_number (2 ^ 52) at (get (codes "to") d) small_52) (λ p e f. f.p)

  agrees_pair : (ds : List Data) → Agrees (IsFraction whole) (fraction_form ds) (walk_pair at ds)
  unfolding walk_pair
  agrees_pair ds =
      agrees_found (IsFraction whole) (QueryRefusal.Shape at) (option_and_then numbers_of (two_of ds)) _ _
      (λ t e. agrees_two (IsUpTo (2 ^ 52)) (IsBetween (pos 1) (pos (2 ^ 20))) (IsFraction whole) (λ p q. record { p = p; q = q }) _ _ (λ p. as_integer t.1) _
      (agrees_whole (2 ^ 52) at t.0 small_52) (λ p f. agrees_between (pos 1) (pos (2 ^ 20)) (QueryRefusal.Number at) t.1 tt (search (arith, ints))) (λ p q f. (f.p, (f.some, f.few))))

  agrees_average : (d : Data) → Agrees (IsFraction whole) (option_map_or fraction_form (items_at (codes "to") d) (whole_fraction_at d)) (walk_average at (get (codes "to") d))
  agrees_average d = by (items_at (codes "to") d)
    where
      by : (o : Option (List Data)) → Agrees (IsFraction whole) (option_map_or fraction_form o (whole_fraction_at d)) (option_map_or (walk_pair at) o (walk_whole_fraction at (get (codes "to") d)))
      by None = agrees_whole_fraction d
      by (Some ds) = agrees_pair ds

pub agrees_fraction : (agg : Agg) (at : Location) (d : Data) → Agrees (IsFraction (IsWhole agg)) (fraction_at agg d) (walk_fraction agg at (get (codes "to") d))
unfolding fraction_at walk_fraction
agrees_fraction Sum at d = agrees_whole_fraction (IsWhole Sum) at d
agrees_fraction Min at d = agrees_whole_fraction (IsWhole Min) at d
agrees_fraction Max at d = agrees_whole_fraction (IsWhole Max) at d
agrees_fraction Count at d = agrees_whole_fraction (IsWhole Count) at d
agrees_fraction Avg at d = agrees_average (IsWhole Avg) at d
