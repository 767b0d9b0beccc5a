-- Which points an answer has, and in which order, by what the laws of `domains` say of the points of a box.
-- Used by the laws on answers and on the solutions in a box.
use Rattle.std.proofs.Common.{◌≡◌, ◌↔◌, ℕ, ◌<◌, List, ◌++◌, length, filter, flat_map, Contains, AllPairs, ap, sym, subst, ◌∙◌, arith}
use Rattle.std.specs.List.{AllPass}
use Rattle.std.proofs.lemmas.List.{length-map}
use Rattle.std.proofs.lemmas.List.Elements.{filter-append}
use Rattle.std.proofs.lemmas.List.Kept.{AllPairs-filter}
use Rattle.std.proofs.lemmas.List.Sums.{AllPass-from_list_all, list_all-from_AllPass}
use Rattle.lists.specs.Numbers.{HaveSameItems}
use Rattle.lists.proofs.Filters.{filter-filter, filter-flat_map}
use Rattle.lists.proofs.Members.{in_from_contains, contains_from_in, in_filter, in_filter_cases}
use Rattle.lists.proofs.SameItems.{same-filter}
use Rattle.cells.specs.Array.{Array}
use Rattle.domains.specs.declared.dom.Dom.{Dom}
use Rattle.domains.specs.Points.{Point, points_of, ComesBefore, IsInBox, is_in_box}
use Rattle.domains.specs.Splits.{SharesOut, first_half, second_half}
use Rattle.domains.specs.Strips.{strip_count, strips_of}
use Rattle.domains.specs.VarBoxes.{IsBox, points_in, box_from}
use Rattle.domains.specs.Within.{IsBoxWithin}
use Rattle.query_model.specs.declared.query.Query.{Query}
use Rattle.query_model.specs.Constraint.{holds, is_solution}
use Rattle.query_model.specs.Answer.{answer, box_of, domain_of, solutions_in}

pub pairs_rise_in_answer : ((ds : List Dom) → AllPairs ComesBefore (points_of ds)) → (a : Array) (q : Query) → AllPairs ComesBefore (answer a q)
pairs_rise_in_answer points_rise a q = AllPairs-filter ComesBefore (is_solution a q) (points_of (box_of q)) (points_rise (box_of q))

pub contains_answer : ((ds : List Dom) (p : Point) → Contains (points_of ds) p ↔ IsInBox ds p) → (a : Array) (q : Query) (p : Point)
    → Contains (answer a q) p ↔ (IsInBox (box_of q) p × AllPass (holds a q p) q.constraints)
contains_answer points_are_in_box a q p =
    let points = points_of (box_of q) in
    let in_box = points_are_in_box (box_of q) p in
    let tests = holds a q p in (
      (λ found. let c = in_filter_cases (is_solution a q) points p (in_from_contains (answer a q) p found) in
          (in_box.0 (contains_from_in points p c.0), AllPass-from_list_all tests q.constraints c.1)),
      (λ h. contains_from_in (answer a q) p (in_filter (is_solution a q) points p (in_from_contains points p (in_box.1 h.0)) (list_all-from_AllPass tests q.constraints h.1))),
    )

-- ---- the solutions of boxes, by what the laws of `domains` say of their points

pub answer-root : ((ds : List Dom) → 0 < length ds → points_in (box_from ds) ≡ points_of ds) → (a : Array) (q : Query) → 0 < length q.variables
    → answer a q ≡ solutions_in a q (box_from (box_of q))
answer-root boxes a q some = let long = length-map q.variables domain_of in ap (filter (is_solution a q)) (sym (boxes (box_of q) (omega (arith, long, some))))

pub halves-solutions : ((b : List Dom) → IsBox b → 1 < length (points_in b) → SharesOut b (first_half b) (second_half b)) → (a : Array) (q : Query) (b : List Dom) → IsBox b → 1 < length (points_in b)
    → HaveSameItems (solutions_in a q b) (solutions_in a q (first_half b) ++ solutions_in a q (second_half b))
halves-solutions shares a q b box more =
    let first = points_in (first_half b) in let second = points_in (second_half b) in
    subst (HaveSameItems (solutions_in a q b)) (filter-append (is_solution a q) first second)
    (same-filter (is_solution a q) (points_in b) (first ++ second) (shares b box more).same)

pub strips-solutions : ((b : List Dom) (asked : ℕ) → IsBox b → 0 < asked → flat_map points_in (strips_of b (strip_count b asked)) ≡ points_in b) → (a : Array) (q : Query) (b : List Dom) (asked : ℕ) → IsBox b → 0 < asked
    → flat_map (solutions_in a q) (strips_of b (strip_count b asked)) ≡ solutions_in a q b
strips-solutions shares a q b asked box some =
    sym (filter-flat_map (is_solution a q) points_in (strips_of b (strip_count b asked))) ∙ ap (filter (is_solution a q)) (shares b asked box some)

pub within-solutions : ((b c : List Dom) → IsBoxWithin b c → points_in b ≡ filter (is_in_box b) (points_in c)) → (a : Array) (q : Query) (b c : List Dom) → IsBoxWithin b c
    → solutions_in a q b ≡ filter (is_in_box b) (solutions_in a q c)
within-solutions kept a q b c h = ap (filter (is_solution a q)) (kept b c h) ∙ filter-filter (is_solution a q) (is_in_box b) (points_in c)
