-- Coordinates from an index and back, and their order.
-- Used by the proofs of `cells`, `layouts`, `chunk_copies`, `array_file` and `chunk_store`.
use Rattle.std.proofs.Common.{◌≡◌, ℕ, zero, suc, ◌+◌, ◌*◌, ◌/◌, ◌%◌, ◌<◌, ◌↔◌, nat_lt, ◌==◌, true, false, cond, inl, inr, List, [], ◌∷◌, refl, sym, ap, ◌∙◌, arith}
use Rattle.std.specs.Cmp.Lexicographic.{slice_cmp}
use Rattle.std.specs.Ordering.{nat_cmp, ordering_then}
use Rattle.std.specs.declared.cmp.Ordering.{Ordering}
use Rattle.std.specs.declared.cmp.Ordering.TheVariants.{Less, Equal, Greater}
use Rattle.std.proofs.lemmas.Bool.{and_parts, and_from, ltb-true, lt-ltb, eqb-true, cases_Bool}
use Rattle.std.proofs.lemmas.Bool.Decides.{nat_tests}
use Rattle.std.proofs.lemmas.Nat.{div-mul-add, mod-mul-add, mul-add-lt, row_fits, div_below, mod_below, div-add-mod'}
use Rattle.grids.specs.Coordinates.{coordinates_of, index_of, in_bounds}
use Rattle.lists.specs.Numbers.{product}

-- ---- coordinates in bounds

pub in_bounds-parts : (n : ℕ) (ns : List ℕ) (c : ℕ) (cs : List ℕ) → in_bounds (n ∷ ns) (c ∷ cs) ≡ true → (c < n) × (in_bounds ns cs ≡ true)
in_bounds-parts n ns c cs h = let a = and_parts (nat_lt c n) (in_bounds ns cs) h in (ltb-true c n a.0, a.1)

pub in_bounds-from : (n : ℕ) (ns : List ℕ) (c : ℕ) (cs : List ℕ) → c < n → in_bounds ns cs ≡ true → in_bounds (n ∷ ns) (c ∷ cs) ≡ true
in_bounds-from n ns c cs here rest = and_from (nat_lt c n) (in_bounds ns cs) (lt-ltb c n here) rest

-- ---- the index of coordinates

pub index_of-below : (ns cs : List ℕ) → in_bounds ns cs ≡ true → index_of ns cs < product ns
index_of-below [] cs h = omega arith
index_of-below (n ∷ ns) [] h = cc
index_of-below (n ∷ ns) (c ∷ cs) h =
    let p = in_bounds-parts n ns c cs h in
    let rest = index_of-below ns cs p.1 in
    omega (arith, mul-add-lt c (product ns) (index_of ns cs) n p.0 rest)

pub coordinates_of-index_of : (ns cs : List ℕ) → in_bounds ns cs ≡ true → coordinates_of ns (index_of ns cs) ≡ cs
coordinates_of-index_of [] [] h = refl
coordinates_of-index_of [] (c ∷ cs) h = cc
coordinates_of-index_of (n ∷ ns) [] h = cc
coordinates_of-index_of (n ∷ ns) (c ∷ cs) h =
    let p = in_bounds-parts n ns c cs h in
    let below = index_of-below ns cs p.1 in
    let first = div-mul-add c (product ns) (index_of ns cs) below in
    let rest = ap (coordinates_of ns) (mod-mul-add c (product ns) (index_of ns cs) below) ∙ coordinates_of-index_of ns cs p.1 in
    (λ i. first i ∷ rest i)

-- ---- the coordinates of an index

pub second_some : (k n p : ℕ) → k < n * p → 0 < p
second_some k n zero h = absurd (omega arith)
second_some k n (suc p) h = omega arith

pub in_bounds-coordinates_of : (ns : List ℕ) (k : ℕ) → k < product ns → in_bounds ns (coordinates_of ns k) ≡ true
in_bounds-coordinates_of [] k h = refl
in_bounds-coordinates_of (n ∷ ns) k h =
    let some = second_some k n (product ns) h in
    in_bounds-from n ns (k / product ns) (coordinates_of ns (k % product ns)) (div_below k (product ns) n some h) (in_bounds-coordinates_of ns (k % product ns) (mod_below k (product ns) some))

pub index_of-coordinates_of : (ns : List ℕ) (k : ℕ) → k < product ns → index_of ns (coordinates_of ns k) ≡ k
index_of-coordinates_of [] k h = omega arith
index_of-coordinates_of (n ∷ ns) k h =
    let rest = index_of-coordinates_of ns (k % product ns) (mod_below k (product ns) (second_some k n (product ns) h)) in
    ap (λ j. k / product ns * product ns + j) rest ∙ div-add-mod' k (product ns)

-- ---- the order of indices and the order of coordinates

later : (c d : ℕ) → nat_lt c d ≡ false → (c == d) ≡ false → d < c
later c d h k = grind (arith, nat_tests)

-- by the first coordinates, and then by the rest
by_first : (p c d i j : ℕ) (rest : Ordering) → i < p → j < p → ((i < j) ↔ (rest ≡ Less)) → (c * p + i < d * p + j) ↔ (ordering_then (nat_cmp c d) rest ≡ Less)
by_first p c d i j rest first second same =
    elim (cases_Bool (nat_lt c d)) [
      | inl less ↦ (
          let fits = row_fits c p d p (ltb-true c d less) (omega arith) in
          (λ h k. ordering_then (cond (less k) Less (cond (c == d) Equal Greater)) rest, λ h. omega (arith, fits))
          )
      | inr other ↦ (
          elim (cases_Bool (c == d)) [
            | inl even ↦ (
                let e : ordering_then (nat_cmp c d) rest ≡ rest = (λ k. ordering_then (cond (other k) Less (cond (even k) Equal Greater)) rest) in
                let one : c * p ≡ d * p = ap (λ n. n * p) (eqb-true c d even) in
                (λ h. e ∙ same.0 (omega (arith, one)), λ h. let less = same.1 (sym e ∙ h) in omega (arith, one))
                )
            | inr odd ↦ (
                let e : ordering_then (nat_cmp c d) rest ≡ Greater = (λ k. ordering_then (cond (other k) Less (cond (odd k) Equal Greater)) rest) in
                let fits = row_fits d p c p (later c d other odd) (omega arith) in
                (λ h. absurd (omega (arith, fits)), λ h. let no : Greater ≡ Less = sym e ∙ h in cc)
                )
          ]
          )
    ]

pub index_of-order : (ns cs ds : List ℕ) → in_bounds ns cs ≡ true → in_bounds ns ds ≡ true → (index_of ns cs < index_of ns ds) ↔ (slice_cmp nat_cmp cs ds ≡ Less)
index_of-order [] [] [] g h = (λ less. absurd (omega arith), λ e. cc)
index_of-order [] [] (d ∷ ds) g h = cc
index_of-order [] (c ∷ cs) ds g h = cc
index_of-order (n ∷ ns) [] ds g h = cc
index_of-order (n ∷ ns) (c ∷ cs) [] g h = cc
index_of-order (n ∷ ns) (c ∷ cs) (d ∷ ds) g h =
    let p = in_bounds-parts n ns c cs g in
    let q = in_bounds-parts n ns d ds h in
    by_first (product ns) c d (index_of ns cs) (index_of ns ds) (slice_cmp nat_cmp cs ds) (index_of-below ns cs p.1) (index_of-below ns ds q.1) (index_of-order ns cs ds p.1 q.1)
