-- Boxes that are copied part by part.
-- Used by the proofs of `copy_box`, `copy_plane`, `copy_planes`, `copy_rows` and `copy_run`.
use Rattle.std.proofs.Common.{◌≡◌, ℕ, suc, ◌+◌, ◌-◌, ◌*◌, ◌/◌, ◌%◌, ◌≤◌, ◌<◌, nat_le, nat_lt, ◌==◌, true, false, ◌&&◌, ◌⊎◌, inl, inr, List, [], ◌∷◌, ◌++◌, length, get_or, take, drop, refl, sym, ap, ◌∙◌, subst, arith, length-take-le, length-drop, length-append}
use Rattle.std.proofs.Math.Nat.{mul-le-mul}
use Rattle.std.proofs.lemmas.Bool.{and_parts, and_from, and_left, and_right, leb-true, le-leb, ltb-true, lt-ltb, eqb-true, cases_Bool}
use Rattle.std.proofs.lemmas.Bool.Decides.{nat_tests}
use Rattle.std.proofs.lemmas.List.{append_assoc, take_all, drop-drop, get_or-take, get_or-drop, get_or_append_left, get_or-append_right}
use Rattle.std.proofs.lemmas.Nat.{mod_below, div_below, div-add-mod', row_fits}
use borrow.Rule.Slice.PartMut.{put_mid}
use Rattle.chunk_copies.specs.Boxes.{source_size, target_size, is_copied, source_index, IsWithinBoth, CopiesBox}
use Rattle.chunk_copies.specs.declared.boxes.Stretch.{Stretch}
use Rattle.cells.specs.declared.cell.Cell.{Cell}
use Rattle.grids.proofs.Coordinates.{second_some}

-- ---- parts

pub le_self : (n : ℕ) → n ≤ n
le_self n = omega arith

-- the parts that a stretch has in one of its lists fit into that list
pub parts_fit : (from count all size n : ℕ) → from + count ≤ all → all * size ≤ n → from * size + count * size ≤ n
parts_fit from count all size n within fits = let less = mul-le-mul {n₁ = from + count} {m₁ = size} within (le_self size) in omega (arith, less)

-- each of these parts fits into it
pub part_fits : (from p count all size n : ℕ) → p < count → from + count ≤ all → all * size ≤ n → (from + p) * size + size ≤ n
part_fits from p count all size n below within fits = let row = row_fits (from + p) size all size (omega arith) (omega arith) in omega (arith, row)

-- ---- a cell of a list after a part of the list was replaced

put_below : (a k : ℕ) (xs ys : List Cell) (i : ℕ) (d : Cell) → i < a → a ≤ length xs → get_or (put_mid a k xs ys) i d ≡ get_or xs i d
put_below a k xs ys i d below within =
    get_or_append_left (take a xs) (ys ++ drop k (drop a xs)) d i (omega (arith, length-take-le a xs within)) ∙ get_or-take a xs i d below

put_in : (a k : ℕ) (xs ys : List Cell) (j : ℕ) (d : Cell) → j < length ys → a ≤ length xs → get_or (put_mid a k xs ys) (a + j) d ≡ get_or ys j d
put_in a k xs ys j d below within =
    let here : a + j - a ≡ j = omega arith in
    get_or-append_right (take a xs) (ys ++ drop k (drop a xs)) a (a + j) d (length-take-le a xs within) (omega arith)
    ∙ ap (λ m. get_or (ys ++ drop k (drop a xs)) m d) here ∙ get_or_append_left ys (drop k (drop a xs)) d j below

put_after : (a k : ℕ) (xs ys : List Cell) (i : ℕ) (d : Cell) → a + k ≤ i → length ys ≡ k → a ≤ length xs → get_or (put_mid a k xs ys) i d ≡ get_or xs i d
put_after a k xs ys i d past long within =
    let there : a + (k + (i - a - k)) ≡ i = omega arith in
    get_or-append_right (take a xs) (ys ++ drop k (drop a xs)) a i d (length-take-le a xs within) (omega arith)
    ∙ get_or-append_right ys (drop k (drop a xs)) k (i - a) d long (omega arith)
    ∙ get_or-drop k (drop a xs) (i - a - k) d ∙ get_or-drop a xs (k + (i - a - k)) d ∙ ap (λ m. get_or xs m d) there

length-put : (a k : ℕ) (xs ys : List Cell) → length ys ≡ k → a + k ≤ length xs → length (put_mid a k xs ys) ≡ length xs
length-put a k xs ys long within =
    omega (arith, length-append (take a xs) (ys ++ drop k (drop a xs)), length-append ys (drop k (drop a xs)), length-take-le a xs, length-drop k (drop a xs), length-drop a xs)

-- ---- one more part

-- the first places of a stretch
abbrev pub first : ℕ → Stretch → Stretch
first p s = record s { count = p }

same_below : (q i : ℕ) → (q == i) ≡ false → nat_lt q i ≡ nat_lt q (suc i)
same_below q i other = grind (arith, nat_tests)

other_number : (q i : ℕ) → (q == i) ≡ false → (q < i) ⊎ (i < q)
other_number q i other = elim (cases_Bool (nat_lt q i)) [ inl less ↦ inl (ltb-true q i less) | inr more ↦ inr (grind (arith, nat_tests)) ]

-- with one more part, no other place is in the box
same_copied : (s : Stretch) (ss : List Stretch) (p k : ℕ) → (k / target_size ss == s.to + p) ≡ false → is_copied (first p s ∷ ss) k ≡ is_copied (first (suc p) s ∷ ss) k
same_copied s ss p k other =
    let more : suc (s.to + p) ≡ s.to + suc p = omega arith in
    ap (λ b. (nat_le s.to (k / target_size ss) && b) && is_copied ss (k % target_size ss)) (same_below (k / target_size ss) (s.to + p) other ∙ ap (nat_lt (k / target_size ss)) more)

-- a place of another part is not in this one
put_other : (i q size kk k : ℕ) (xs ys : List Cell) (d : Cell) → (q == i) ≡ false → q * size + k % size ≡ k → k % size < size → kk ≡ size → length ys ≡ kk → i * size ≤ length xs
    → get_or (put_mid (i * size) kk xs ys) k d ≡ get_or xs k d
put_other i q size kk k xs ys d other is below is_size long within =
    elim (other_number q i other) [
      | inl less ↦ (let row = row_fits q size i size less (omega arith) in put_below (i * size) kk xs ys k d (omega (arith, row, is, below)) within)
      | inr more ↦ (let row = row_fits i size q size more (omega arith) in put_after (i * size) kk xs ys k d (omega (arith, row, is, below, is_size)) long within)
    ]

-- the place of a cell of this part
place_here : (s : Stretch) (ss : List Stretch) (p k : ℕ) → k / target_size ss ≡ s.to + p
    → (s.from + p) * source_size ss + source_index ss (k % target_size ss) ≡ source_index (first (suc p) s ∷ ss) k
place_here s ss p k here =
    let back : p ≡ k / target_size ss - s.to = omega arith in
    ap (λ m. (s.from + m) * source_size ss + source_index ss (k % target_size ss)) back

last_copied : (s : Stretch) (ss : List Stretch) (p k : ℕ) → k / target_size ss ≡ s.to + p → is_copied (first (suc p) s ∷ ss) k ≡ is_copied ss (k % target_size ss)
last_copied s ss p k here =
    let q = k / target_size ss in
    let low = le-leb s.to q (omega arith) in
    let high = lt-ltb q (s.to + suc p) (omega arith) in
    ap (λ b. b && is_copied ss (k % target_size ss)) (and_from (nat_le s.to q) (nat_lt q (s.to + suc p)) low high)

first_not : (s : Stretch) (ss : List Stretch) (p k : ℕ) → k / target_size ss ≡ s.to + p → is_copied (first p s ∷ ss) k ≡ false
first_not s ss p k here =
    let q = k / target_size ss in
    let high : nat_lt q (s.to + p) ≡ false = grind (arith, nat_tests) in
    and_left _ _ (and_right (nat_le s.to q) (nat_lt q (s.to + p)) high)

pub copied_more : (s : Stretch) (ss : List Stretch) (p kk : ℕ) (source old cells part : List Cell) → p < s.count → s.to + s.count ≤ s.target
    → target_size (s ∷ ss) ≡ length old → kk ≡ target_size ss → CopiesBox (first p s ∷ ss) source old cells
    → CopiesBox ss (drop ((s.from + p) * source_size ss) source) (take kk (drop ((s.to + p) * target_size ss) cells)) part
    → CopiesBox (first (suc p) s ∷ ss) source old (put_mid ((s.to + p) * target_size ss) kk cells part)
copied_more s ss p kk source old cells part below within all is_size before here =
    let size = target_size ss in
    let i = s.to + p in
    let new = put_mid (i * size) kk cells part in
    let fits = part_fits s.to p s.count s.target size (length old) below within (omega arith) in
    let same = before.long in
    let room : i * size + kk ≤ length cells = omega (arith, fits, same, is_size) in
    let old_part : length (take kk (drop (i * size) cells)) ≡ kk = length-take-le kk (drop (i * size) cells) (omega (arith, room, length-drop (i * size) cells)) in
    let long : length part ≡ kk = here.long ∙ old_part in
    let row : (k : ℕ) → k < length old → k % size < size = λ k h. mod_below k size (second_some k s.target size (omega (arith, h, all))) in
    let parts : (k : ℕ) → k / size * size + k % size ≡ k = λ k. div-add-mod' k size in
    let in_part : (k : ℕ) (d : Cell) → k < length old → k / size ≡ i → get_or new k d ≡ get_or part (k % size) d = λ k d h at.
    let e : k ≡ i * size + k % size = sym (parts k) ∙ ap (λ q. q * size + k % size) at in
    ap (λ m. get_or new m d) e ∙ put_in (i * size) kk cells part (k % size) d (omega (arith, row k h, long, is_size)) (omega (arith, room)) in
    record {
      long = length-put (i * size) kk cells part long room ∙ same;
      copied = λ k d h inside.
          elim (cases_Bool (k / size == i)) [
            | inl at ↦ (
                let here_is = eqb-true (k / size) i at in
                in_part k d h here_is
                ∙ here.copied (k % size) d (omega (arith, row k h, old_part, is_size)) (sym (last_copied s ss p k here_is) ∙ inside)
                ∙ get_or-drop ((s.from + p) * source_size ss) source (source_index ss (k % size)) d
                ∙ ap (λ m. get_or source m d) (place_here s ss p k here_is)
                )
            | inr other ↦ (
                put_other i (k / size) size kk k cells part d other (parts k) (row k h) is_size long (omega (arith, room))
                ∙ before.copied k d h (same_copied s ss p k other ∙ inside)
                )
          ];
      kept = λ k d h outside.
          elim (cases_Bool (k / size == i)) [
            | inl at ↦ (
                let here_is = eqb-true (k / size) i at in
                let e : i * size + k % size ≡ k = sym (ap (λ q. q * size + k % size) here_is) ∙ parts k in
                in_part k d h here_is
                ∙ here.kept (k % size) d (omega (arith, row k h, old_part, is_size)) (sym (last_copied s ss p k here_is) ∙ outside)
                ∙ get_or-take kk (drop (i * size) cells) (k % size) d (omega (arith, row k h, is_size)) ∙ get_or-drop (i * size) cells (k % size) d
                ∙ ap (λ m. get_or cells m d) e
                ∙ before.kept k d h (first_not s ss p k here_is)
                )
            | inr other ↦ (
                put_other i (k / size) size kk k cells part d other (parts k) (row k h) is_size long (omega (arith, room))
                ∙ before.kept k d h (same_copied s ss p k other ∙ outside)
                )
          ];
    }

-- ---- no part

none_below : (s : Stretch) (ss : List Stretch) (k : ℕ) → is_copied (first 0 s ∷ ss) k ≡ false
none_below s ss k =
    let q = k / target_size ss in
    elim (cases_Bool (nat_le s.to q)) [
      | inl low ↦ (let high : nat_lt q (s.to + 0) ≡ false = grind (arith, nat_tests) in and_left _ _ (and_right (nat_le s.to q) (nat_lt q (s.to + 0)) high))
      | inr less ↦ and_left _ _ (and_left (nat_le s.to q) (nat_lt q (s.to + 0)) less)
    ]

pub copied_none : (s : Stretch) (ss : List Stretch) (source old : List Cell) → CopiesBox (first 0 s ∷ ss) source old old
copied_none s ss source old = record { long = refl; copied = λ k d h inside. absurd (let no = none_below s ss k in cc); kept = λ k d h outside. refl }

-- ---- parts in one run

-- all of both extents
abbrev pub IsWhole : Stretch → Type 0
IsWhole s = (s.count ≡ s.target) × (s.source ≡ s.target)

abbrev pub AllWhole : List Stretch → Type 0
AllWhole [] = Unit {0}
AllWhole (s ∷ ss) = (IsWhole s × IsWithinBoth s) × AllWhole ss

pub sizes-whole : (ss : List Stretch) → AllWhole ss → source_size ss ≡ target_size ss
sizes-whole [] h = refl
sizes-whole (s ∷ ss) h = let rest = sizes-whole ss h.1 in (λ i. h.0.0.1 i * rest i)

copied-whole : (ss : List Stretch) (k : ℕ) → AllWhole ss → k < target_size ss → is_copied ss k ≡ true
copied-whole [] k h below = refl
copied-whole (s ∷ ss) k h below =
    let size = target_size ss in
    let some = second_some k s.target size below in
    let q = div_below k size s.target some below in
    let whole = h.0.0 in
    let within = h.0.1 in
    let low = le-leb s.to (k / size) (omega (arith, whole.0, within.1)) in
    let high = lt-ltb (k / size) (s.to + s.count) (omega (arith, q, whole.0)) in
    and_from _ _ (and_from _ _ low high) (copied-whole ss (k % size) h.1 (mod_below k size some))

place-whole : (ss : List Stretch) (k : ℕ) → AllWhole ss → k < target_size ss → source_index ss k ≡ k
place-whole [] k h below = omega arith
place-whole (s ∷ ss) k h below =
    let size = target_size ss in
    let some = second_some k s.target size below in
    let whole = h.0.0 in
    let within = h.0.1 in
    let from : s.from + (k / size - s.to) ≡ k / size = omega (arith, whole.0, whole.1, within.0, within.1) in
    let rest = place-whole ss (k % size) h.1 (mod_below k size some) in
    (λ i. from i * sizes-whole ss h.1 i + rest i) ∙ div-add-mod' k size

-- the cells of a run of parts
abbrev pub run_of : (s : Stretch) → ℕ → List Cell → List Cell → List Cell
run_of s size source old = take (s.to * size) old ++ take (s.count * size) (drop (s.from * size) source) ++ drop (s.to * size + s.count * size) old

-- the place of a cell after the first one of the run
run_place : (from to q size j k : ℕ) → to ≤ q → q * size + j ≡ k → from * size + (k - to * size) ≡ (from + (q - to)) * size + j
run_place from to q size j k low is =
    let e = q - to in
    let parts : to + e ≡ q = omega arith in
    let whole : (to + e) * size + j ≡ k = ap (λ m. m * size + j) parts ∙ is in omega (arith, whole)

put_run : (s : Stretch) (size : ℕ) (source old : List Cell) → put_mid (s.to * size) (s.count * size) old (take (s.count * size) (drop (s.from * size) source)) ≡ run_of s size source old
put_run s size source old =
    let part = take (s.count * size) (drop (s.from * size) source) in
    ap (λ l. take (s.to * size) old ++ (part ++ l)) (drop-drop (s.count * size) (s.to * size) old)
    ∙ sym (append_assoc (take (s.to * size) old) part (drop (s.to * size + s.count * size) old))

run_cell : (s : Stretch) (ss : List Stretch) (source old : List Cell) → IsWithinBoth s → AllWhole ss → target_size (s ∷ ss) ≡ length old → source_size (s ∷ ss) ≤ length source
    → CopiesBox (s ∷ ss) source old (put_mid (s.to * target_size ss) (s.count * target_size ss) old (take (s.count * target_size ss) (drop (s.from * target_size ss) source)))
run_cell s ss source old within whole all room =
    let size = target_size ss in
    let a = s.to * size in
    let n = s.count * size in
    let part = take n (drop (s.from * size) source) in
    let same = sizes-whole ss whole in
    let source_room : s.source * size ≤ length source = subst (λ m. s.source * m ≤ length source) same room in
    let source_fit = parts_fit s.from s.count s.source size (length source) within.0 source_room in
    let fit = parts_fit s.to s.count s.target size (length old) within.1 (omega (arith, all)) in
    let long : length part ≡ n = length-take-le n (drop (s.from * size) source) (omega (arith, source_fit, length-drop (s.from * size) source)) in
    let row : (k : ℕ) → k < length old → k % size < size = λ k h. mod_below k size (second_some k s.target size (omega (arith, h, all))) in
    record {
      long = length-put a n old part long fit;
      copied = λ k d h inside.
          let q = k / size in
          let ends = and_parts (nat_le s.to q) (nat_lt q (s.to + s.count)) (and_parts _ (is_copied ss (k % size)) inside).0 in
          let low = leb-true s.to q ends.0 in
          let high = ltb-true q (s.to + s.count) ends.1 in
          let parts = div-add-mod' k size in
          let less = mul-le-mul {n₁ = s.to} {m₁ = size} low (le_self size) in
          let more = row_fits q size (s.to + s.count) size high (le_self size) in
          let here : a + (k - a) ≡ k = omega (arith, less, parts) in
          let below : k - a < n = omega (arith, more, parts, less, row k h) in
          let place : s.from * size + (k - a) ≡ source_index (s ∷ ss) k =
          run_place s.from s.to q size (k % size) k low parts
          ∙ (λ i. (s.from + (q - s.to)) * sym same i + sym (place-whole ss (k % size) whole (row k h)) i) in
          ap (λ m. get_or (put_mid a n old part) m d) (sym here)
          ∙ put_in a n old part (k - a) d (omega (arith, below, long)) (omega (arith, fit))
          ∙ get_or-take n (drop (s.from * size) source) (k - a) d below ∙ get_or-drop (s.from * size) source (k - a) d
          ∙ ap (λ m. get_or source m d) place;
      kept = λ k d h outside.
          let q = k / size in
          let parts = div-add-mod' k size in
          let whole_part = copied-whole ss (k % size) whole (row k h) in
          elim (cases_Bool (nat_le s.to q)) [
            | inl low ↦ (
                elim (cases_Bool (nat_lt q (s.to + s.count))) [
                  | inl high ↦ absurd (let yes : is_copied (s ∷ ss) k ≡ true = and_from _ _ (and_from _ _ low high) whole_part in let no : true ≡ false = sym yes ∙ outside in cc)
                  | inr high ↦ (
                      let past : s.to + s.count ≤ q = grind (arith, nat_tests) in
                      let more = mul-le-mul {n₁ = s.to + s.count} {m₁ = size} past (le_self size) in
                      put_after a n old part k d (omega (arith, more, parts)) long (omega (arith, fit))
                      )
                ]
                )
            | inr before ↦ (
                let less : q < s.to = grind (arith, nat_tests) in
                let more = row_fits q size s.to size less (le_self size) in
                put_below a n old part k d (omega (arith, more, parts, row k h)) (omega (arith, fit))
                )
          ];
    }

-- parts that are whole in the other dimensions are copied in one run
pub copied_run : (s : Stretch) (ss all : List Stretch) (size : ℕ) (source old new : List Cell) → all ≡ s ∷ ss → IsWithinBoth s → AllWhole ss → target_size ss ≡ size
    → target_size all ≡ length old → source_size all ≤ length source → new ≡ run_of s size source old → CopiesBox all source old new
copied_run s ss all size source old new is within whole is_size long room e =
    let run = run_cell s ss source old within whole (sym (ap target_size is) ∙ long) (subst (λ l. source_size l ≤ length source) is room) in
    let same : put_mid (s.to * target_size ss) (s.count * target_size ss) old (take (s.count * target_size ss) (drop (s.from * target_size ss) source)) ≡ new =
    put_run s (target_size ss) source old ∙ ap (λ m. run_of s m source old) is_size ∙ sym e in
    subst (λ l. CopiesBox l source old new) (sym is) (subst (CopiesBox (s ∷ ss) source old) same run)

-- ---- one more part, written

pub copied_part : (s : Stretch) (ss : List Stretch) (p size source_part : ℕ) (source old cells part : List Cell) → target_size ss ≡ size → source_size ss ≡ source_part → p < s.count
    → IsWithinBoth s → target_size (s ∷ ss) ≡ length old → CopiesBox (first p s ∷ ss) source old cells
    → CopiesBox ss (take (length source - (s.from + p) * source_part) (drop ((s.from + p) * source_part) source)) (take ((s.to + p) * size + size - (s.to + p) * size) (drop ((s.to + p) * size) cells)) part
    → CopiesBox (first (p + 1) s ∷ ss) source old (put_mid ((s.to + p) * size) ((s.to + p) * size + size - (s.to + p) * size) cells part)
copied_part s ss p size source_part source old cells part is_size is_part below within all before here =
    let goal : ℕ → ℕ → Type 0 = λ n m.
    CopiesBox ss (take (length source - (s.from + p) * m) (drop ((s.from + p) * m) source)) (take ((s.to + p) * n + n - (s.to + p) * n) (drop ((s.to + p) * n) cells)) part
    → CopiesBox (first (p + 1) s ∷ ss) source old (put_mid ((s.to + p) * n) ((s.to + p) * n + n - (s.to + p) * n) cells part) in
    let n = target_size ss in
    let a = (s.from + p) * source_size ss in
    let k = (s.to + p) * n + n - (s.to + p) * n in
    let more : suc p ≡ p + 1 = omega arith in
    let whole : take (length source - a) (drop a source) ≡ drop a source = take_all (length source - a) (drop a source) (omega (arith, length-drop a source)) in
    let base : goal n (source_size ss) = λ h.
    subst (λ m. CopiesBox (first m s ∷ ss) source old (put_mid ((s.to + p) * n) k cells part)) more
    (copied_more s ss p k source old cells part below within.1 all (omega arith) before (subst (λ l. CopiesBox ss l (take k (drop ((s.to + p) * n) cells)) part) whole h)) in
    subst (λ m. goal size m) is_part (subst (λ m. goal m (source_size ss)) is_size base) here

-- ---- lists of two and three

pub sizes-two : (ss : List Stretch) (d : Stretch) → length ss ≡ 2
    → (target_size ss ≡ (get_or ss 0 d).target * (get_or ss 1 d).target) × (source_size ss ≡ (get_or ss 0 d).source * (get_or ss 1 d).source)
sizes-two (s ∷ r ∷ []) d long = (omega arith, omega arith)
sizes-two ss d long = absurd (omega arith)

-- the source of one part goes to the end of the list
pub source_left : (s : Stretch) (p size n : ℕ) (source : List Cell) → p < s.count → IsWithinBoth s → s.source * size ≤ length source → n ≡ (s.from + p) * size
    → size ≤ length (take (length source - n) (drop n source))
source_left s p size n source below within room is =
    let fit = part_fits s.from p s.count s.source size (length source) below within.0 room in
    omega (arith, fit, is, length-take-le (length source - n) (drop n source), length-drop n source)

-- what is left of the source and of the target for a part of each
pub target_left : (s : Stretch) (p size n : ℕ) (old cells : List Cell) → p < s.count → IsWithinBoth s → s.target * size ≡ length old → length cells ≡ length old → n ≡ (s.to + p) * size
    → size ≡ length (take (n + size - n) (drop n cells))
target_left s p size n old cells below within room same is =
    let fit = part_fits s.to p s.count s.target size (length old) below within.1 (omega (arith, room)) in
    omega (arith, fit, is, same, length-take-le (n + size - n) (drop n cells), length-drop n cells)
