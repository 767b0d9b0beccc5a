use Rattle.std.proofs.Common.{map, option_map, Some, sym, ap, ◌∙◌}
use Rattle.serde_json.specs.View.{view}
use Rattle.query_text.specs.Json.{list_of}
use Rattle.query_text.proofs.Items.{list_of-items_of}
use Rattle.query_text.proofs.json_array.items_in.Goals as goal

pub returns-in-Some : goal.returns-in-Some
returns-in-Some c =
    ap (λ vs. Some (map view vs)) c.as_slice.ensures.value
    ∙ ap Some (sym (list_of-items_of (map view c.in-Some.items.now.items)))
    ∙ ap (option_map list_of) c.in-Some.ensures
