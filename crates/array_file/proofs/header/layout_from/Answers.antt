use Rattle.std.proofs.Common.{◌≡◌, [], ◌∷◌, slice_index, Some, None, MatchResult, subst}
use Rattle.layouts.specs.declared.numbers.LayoutNumbers.{LayoutNumbers}
use Rattle.lists.specs.Rules.{first_broken}
use Rattle.layouts.specs.Rules.{layout_rules}
use Rattle.array_file.specs.Header.{layout_in}
use Rattle.array_file.proofs.header.layout_from.Goals as goal

pub returns : goal.returns
returns c =
    let parts : LayoutNumbers = record {
      rank = slice_index c.args.numbers.now 1;
      extents = c.three-5.result;
      chunk = c.three-6.result;
      levels = slice_index c.args.numbers.now 8;
      blocks = c.three.result ∷ c.three-2.result ∷ c.three-3.result ∷ c.three-4.result ∷ [];
    } in
    let same : parts ≡ layout_in c.args.numbers.now = λ i. record {
      rank = slice_index c.args.numbers.now 1;
      extents = c.three-5.ensures i;
      chunk = c.three-6.ensures i;
      levels = slice_index c.args.numbers.now 8;
      blocks = c.three.ensures i ∷ c.three-2.ensures i ∷ c.three-3.ensures i ∷ c.three-4.ensures i ∷ [];
    } in
    subst
    (λ (stated : LayoutNumbers). MatchResult c.new.result (λ l. (first_broken (layout_rules stated) ≡ None) × (l ≡ stated)) (λ r. first_broken (layout_rules stated) ≡ Some r))
    same c.new.ensures
