use Rattle.std.proofs.Common.{rules, ◌≡◌, ℕ, Bool, List, length, map, String, Global, sym, ap, ◌∙◌}
use Rattle.std.specs.Str.{bytes_eq}
use Rattle.std.specs.BTreeMap.{keys}
use Rattle.std.specs.List.{list_any, list_all}
use Rattle.std.specs.String.{string_bytes}
use Rattle.std.specs.Map.Iter.{TakesFirst, deref}
use Rattle.std.proofs.lemmas.Iterator.Consumers.{YieldsList-from_shown}
use Rattle.std.proofs.lemmas.Iterator.Search.{all_from_yields_List}
use Rattle.std.proofs.lemmas.List.Folds.{list_all-map}
use borrow.Author.Tests.{tests}
use Rattle.query_text.proofs.Members.{keys_of-members_view}
use Rattle.query_text.proofs.keys.has_only.Goals as goal

pub returns : goal.returns
returns c =
    let members = c.args.members.now in
    let known : List (List ℕ) = map (λ k. k.now) c.args.known.now in
    let test : List ℕ → Bool = λ key. list_any (bytes_eq key) known in
    let shown : c.keys.result ≡ keys members = c.keys.ensures.rest in
    let all : c.all.result ≡ list_all (λ (s : String Global). test (string_bytes s)) c.keys.result =
    all_from_yields_List (λ (s : String Global). test (string_bytes s)) _ _ _ c.all.ensures.ran
    (YieldsList-from_shown (TakesFirst deref) deref (λ s. s) (λ s t h. ap length h.0) (λ s x t h. h) c.keys.result) (λ x b q k. search (rules, tests)) in
    all ∙ ap (list_all (λ (s : String Global). test (string_bytes s))) shown ∙ sym (list_all-map test string_bytes (keys members)) ∙ ap (list_all test) (sym (keys_of-members_view members.entries))
