-- Numbers of four bytes, the lowest byte first, one after the other.
-- Used by the proofs of `Headers` and `Layouts`.
use Rattle.std.proofs.Common.{◌≡◌, ℕ, zero, suc, ◌+◌, ◌*◌, ◌^◌, ◌<◌, List, [], ◌∷◌, length, drop, map, get_or, refl, sym, ap, ◌∙◌, arith}
use Rattle.std.specs.List.{range_with_len, flat_map, AllByRecursion}
use Rattle.std.specs.Int.{byte_at}
use Rattle.std.proofs.lemmas.List.{drop-drop}
use Rattle.std.proofs.lemmas.List.FromFn.{fill_by_all}
use Rattle.byteorder.specs.Endian.{little_bytes, little_number}
use Rattle.byteorder.specs.Numbers.{little_number-reads_back}

-- each is a byte
abbrev pub AreBytes : List ℕ → Type 0
AreBytes bytes = AllByRecursion (λ b. b < 256) bytes

-- each fits four bytes
abbrev pub AreWords : List ℕ → Type 0
AreWords numbers = AllByRecursion (λ n. n < 256 ^ 4) numbers

-- the first n numbers in these bytes
abbrev numbers_in : ℕ → List ℕ → List ℕ
numbers_in zero bytes = []
numbers_in (suc n) bytes = little_number 4 bytes ∷ numbers_in n (drop 4 bytes)

-- the same, each by its place
abbrev pub numbers_at : ℕ → List ℕ → List ℕ
numbers_at n bytes = map (λ k. little_number 4 (drop (4 * k) bytes)) (range_with_len 0 n)

length-numbers_in : (n : ℕ) (bytes : List ℕ) → length (numbers_in n bytes) ≡ n
length-numbers_in zero bytes = refl
length-numbers_in (suc n) bytes = let e = length-numbers_in n (drop 4 bytes) in omega (arith, e)

get_or-numbers_in : (n k : ℕ) (bytes : List ℕ) → k < n → get_or (numbers_in n bytes) k 0 ≡ little_number 4 (drop (4 * k) bytes)
get_or-numbers_in zero k bytes below = absurd (omega arith)
get_or-numbers_in (suc n) zero bytes below = refl
get_or-numbers_in (suc n) (suc k) bytes below =
    let next : 4 + 4 * k ≡ 4 * suc k = omega arith in
    get_or-numbers_in n k (drop 4 bytes) (omega arith)
    ∙ ap (little_number 4) (drop-drop (4 * k) 4 bytes ∙ ap (λ at. drop at bytes) next)

numbers_in-at : (n : ℕ) (bytes : List ℕ) → numbers_in n bytes ≡ numbers_at n bytes
numbers_in-at n bytes =
    fill_by_all (λ k. little_number 4 (drop (4 * k) bytes)) (numbers_in n bytes) n 0 (length-numbers_in n bytes)
    (λ k below. get_or-numbers_in n k bytes below)

-- ---- numbers that were written

pub length-written : (numbers : List ℕ) → length (flat_map (little_bytes 4) numbers) ≡ 4 * length numbers
length-written [] = refl
length-written (n ∷ ns) = let e = length-written ns in omega (arith, e)

numbers_in-written : (numbers : List ℕ) → AreWords numbers → numbers_in (length numbers) (flat_map (little_bytes 4) numbers) ≡ numbers
numbers_in-written [] small = refl
numbers_in-written (n ∷ ns) small =
    let first = little_number-reads_back 4 n (flat_map (little_bytes 4) ns) small.0 in
    let others = numbers_in-written ns small.1 in
    λ i. first i ∷ others i

-- they are read again
pub numbers_at-written : (numbers : List ℕ) → AreWords numbers → numbers_at (length numbers) (flat_map (little_bytes 4) numbers) ≡ numbers
numbers_at-written numbers small =
    sym (numbers_in-at (length numbers) (flat_map (little_bytes 4) numbers)) ∙ numbers_in-written numbers small

-- ---- bytes that were read

four_bytes : (a b c d : ℕ) → a < 256 → b < 256 → c < 256 → d < 256
    → let n = a + 256 * (b + 256 * (c + 256 * (d + 256 * 0))) in (byte_at 0 n ≡ a) × (byte_at 1 n ≡ b) × (byte_at 2 n ≡ c) × (byte_at 3 n ≡ d)
four_bytes a b c d is_a is_b is_c is_d = (omega arith, omega arith, omega arith, omega arith)

bytes-numbers_in : (n : ℕ) (bytes : List ℕ) → length bytes ≡ 4 * n → AreBytes bytes → flat_map (little_bytes 4) (numbers_in n bytes) ≡ bytes
bytes-numbers_in zero [] long small = refl
bytes-numbers_in zero (a ∷ bytes) long small = absurd (omega arith)
bytes-numbers_in (suc n) [] long small = absurd (omega arith)
bytes-numbers_in (suc n) (a ∷ []) long small = absurd (omega arith)
bytes-numbers_in (suc n) (a ∷ b ∷ []) long small = absurd (omega arith)
bytes-numbers_in (suc n) (a ∷ b ∷ c ∷ []) long small = absurd (omega arith)
bytes-numbers_in (suc n) (a ∷ b ∷ c ∷ d ∷ bytes) long small =
    let first = four_bytes a b c d small.0 small.1.0 small.1.1.0 small.1.1.1.0 in
    let others = bytes-numbers_in n bytes (omega arith) small.1.1.1.1 in
    λ i. first.0 i ∷ first.1 i ∷ first.2 i ∷ first.3 i ∷ others i

-- they are written again
pub bytes-numbers_at : (n : ℕ) (bytes : List ℕ) → length bytes ≡ 4 * n → AreBytes bytes → flat_map (little_bytes 4) (numbers_at n bytes) ≡ bytes
bytes-numbers_at n bytes long small = ap (flat_map (little_bytes 4)) (sym (numbers_in-at n bytes)) ∙ bytes-numbers_in n bytes long small
