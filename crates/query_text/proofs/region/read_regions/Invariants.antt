use Rattle.std.proofs.Common.{◌≡◌, ◌≢◌, length, map, drop, All, AllPairs}
use Rattle.query_model.specs.Rules.{IsRegion}
use Rattle.query_model.specs.declared.parts.Region.{Region}
use Rattle.serde_json.specs.View.{view}
use Rattle.query_text.specs.Walk.{walk_fold, walk_each, appending, walk_region}
use Rattle.query_text.proofs.region.read_regions.Given as goal

abbrev pub invariant-loop-item : goal.invariant-loop-item
invariant-loop-item l =
    record {
      walk : walk_fold (appending (walk_region l.rank l.variables)) l.regions.items (map view (drop l.item-index l.items)) ≡ walk_each (walk_region l.rank l.variables) (map view l.items);
      count : length l.regions.items ≡ l.item-index;
      rules : All (IsRegion l.rank (length l.variables)) l.regions.items;
      names : AllPairs (λ (r s : Region). r.name ≢ s.name) l.regions.items;
    }
