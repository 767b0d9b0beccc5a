-- A record that grows by one part after another.
-- Used by the proofs of `planes_record`, `rows_record` and `run_record`.
use Rattle.std.proofs.Common.{◌≡◌, ℕ, ◌+◌, ◌-◌, ◌*◌, ◌^◌, ◌≤◌, List, ◌++◌, ℤ, pos, sym, ap, ◌∙◌, arith, append-nil}
use Rattle.std.specs.List.{range_with_len, flat_map, sum_by}
use Rattle.std.proofs.lemmas.Int.{ints}
use Rattle.std.proofs.Math.Nat.{mul-sub, mul_comm}
use Rattle.std.proofs.lemmas.List.Concat.{flat_map-append}
use Rattle.lists.specs.Numbers.{IsWithin, HaveSameItems}
use Rattle.cells.specs.Records.{record_of}
use Rattle.cells.specs.declared.record.Record.{Record}
use Rattle.lists.proofs.Ranges.{range_with_len-add}

-- this is the record of the numbers of the parts from one index up to another; each part has at most so many cells
pub record IsPass (numbers : ℕ → List ℤ) (from r size : ℕ) (all : Record) : Type 0 where
  pub is : all ≡ record_of (flat_map numbers (range_with_len from (r - from)))
  pub few : all.count ≤ r * size
  pub within : IsWithin all.sum (2 ^ 31 * all.count)

pub pass-none : (numbers : ℕ → List ℤ) (from size : ℕ) → IsPass numbers from from size (record { least = pos 0; greatest = pos 0; sum = pos 0; count = 0 })
pass-none numbers from size =
    let none : 0 ≡ from - from = omega arith in
    record { is = ap (λ n. record_of (flat_map numbers (range_with_len from n))) none; few = omega arith; within = record { low = omega (arith, ints); high = omega (arith, ints) } }

-- one more part
parts-more : (numbers : ℕ → List ℤ) (from r : ℕ) → from ≤ r → flat_map numbers (range_with_len from (r + 1 - from)) ≡ flat_map numbers (range_with_len from (r - from)) ++ numbers r
parts-more numbers from r ordered =
    let more : (r + 1) - from ≡ (r - from) + 1 = omega arith in
    let last : from + (r - from) ≡ r = omega arith in
    ap (λ n. flat_map numbers (range_with_len from n)) more ∙ ap (flat_map numbers) (range_with_len-add from (r - from) 1)
    ∙ flat_map-append numbers (range_with_len from (r - from)) (range_with_len (from + (r - from)) 1)
    ∙ ap (λ l. flat_map numbers (range_with_len from (r - from)) ++ l) (append-nil (numbers (from + (r - from))) ∙ ap numbers last)

pub pass-more : (numbers : ℕ → List ℤ) (from r size : ℕ) (all one new : Record) → from ≤ r → IsPass numbers from r size all
    → one ≡ record_of (numbers r) → one.count ≤ size → IsWithin one.sum (2 ^ 31 * one.count)
    → ((xs ys zs : List ℤ) → all ≡ record_of xs → one ≡ record_of ys → HaveSameItems zs (xs ++ ys) → new ≡ record_of zs)
    → new.count ≡ all.count + one.count → (IsWithin all.sum (2 ^ 31 * all.count) → IsWithin one.sum (2 ^ 31 * one.count) → IsWithin new.sum (2 ^ 31 * new.count))
    → IsPass numbers from (r + 1) size new
pass-more numbers from r size all one new ordered pass is few within meant count each =
    let before = pass.few in
    record {
      is = meant (flat_map numbers (range_with_len from (r - from))) (numbers r) (flat_map numbers (range_with_len from (r + 1 - from))) pass.is is (λ weight. ap (sum_by weight) (parts-more numbers from r ordered));
      few = omega (arith, count, before, few);
      within = each pass.within within;
    }

-- the length of a run of parts
pub times-sub : (m n k : ℕ) → m * k - n * k ≡ (m - n) * k
times-sub m n k = (λ i. mul_comm m k i - mul_comm n k i) ∙ sym (mul-sub k m n) ∙ mul_comm k (m - n)

pub le-le : (a b c : ℕ) → a ≤ b → b ≤ c → a ≤ c
le-le a b c h k = omega arith

-- the counts of the parts so far and of one part are within the limit
pub sum-le : (a b c d e f g : ℕ) → a ≤ c → b ≤ d → d ≤ e → c + e ≤ f → f ≤ g → g ≤ 2 ^ 26 → a + b ≤ 2 ^ 26
sum-le a b c d e f g h1 h2 h3 h4 h5 h6 = omega arith
