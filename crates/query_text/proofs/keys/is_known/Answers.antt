use Rattle.std.proofs.Common.{rules, sym, ◌∙◌}
use Rattle.std.specs.Str.{bytes_eq}
use Rattle.std.proofs.lemmas.Iterator.{YieldsList-from_slice}
use Rattle.std.proofs.lemmas.Iterator.Search.{any_from_yields_List}
use borrow.Author.Tests.{tests}
use Rattle.query_text.proofs.Members.{list_any-map}
use Rattle.query_text.proofs.keys.is_known.Goals as goal

pub returns : goal.returns
returns c =
    any_from_yields_List (λ k. bytes_eq c.args.key.now k.now) _ _ _ c.any.ensures.ran (YieldsList-from_slice c.args.known.now cc) (λ x b q k. search (rules, tests))
    ∙ sym (list_any-map (bytes_eq c.args.key.now) (λ k. k.now) c.args.known.now)
