-- What the reads of one call ask for, and what they fill. Used by `read_whole`.
use Rattle.std.proofs.Common.{◌≡◌, ℕ, ◌+◌, ◌<◌, ◌≤◌, List, [], ◌∷◌, ◌++◌, length, take, drop, Option, Some, None, ◌⊎◌, ⊎_elim, refl, sym, ap, ◌∙◌, subst, append_assoc, append-nil, ◌-◌, zero, suc, arith, length-drop}
use Rattle.std.proofs.lemmas.Bool.Decides.{nat_tests}
use Rattle.std.proofs.lemmas.List.{take-append-le, take_at, drop-drop, length-take-le}
use Rattle.std.proofs.Math.Seq.{take-add, drop-append_seam}
use borrow.Rule.Slice.PartMut.{put_mid, mid_of, post_of}
use Rattle.source_io.specs.Told.{Fills, Holds}
use Rattle.source_io.specs.Plan.{bytes_per_call}
use Rattle.source_io.specs.Asked.{Asks, AsksOne, AsksWhole, AsksPrefix, Covering, Gives, Rising}

-- ---- reads that cover a range

-- what a read may give of n bytes
gives_some : (step : Option ℕ) (n : ℕ) → 0 < n → (m : ℕ) × (0 < m) × (m ≤ n) × Gives step n m
gives_some None n some = (n, some, omega arith, tt)
gives_some (Some step) n some = (bytes_per_call step n, grind (arith, nat_tests), grind (arith, nat_tests), refl)

rising_from : (a c b : ℕ) (rs : List (ℕ × ℕ)) → Rising c b rs → a ≤ c → Rising a b rs
rising_from a c b [] h below = tt
rising_from a c b (r ∷ rs) h below = (omega arith, h.1, h.2, h.3)

module _ (step : Option ℕ) where
  -- reads from a on, each of which asks for all up to b. The next one begins at c
  abbrev pub Reaching : ℕ → ℕ → ℕ → List (ℕ × ℕ) → Type 0
  Reaching a c b [] = a ≡ c
  Reaching a c b (r ∷ rs) = (r.0 ≡ a) × (a + r.1 ≡ b) × ((given : ℕ) × (0 < given) × (given ≤ r.1) × Gives step r.1 given × Reaching (a + given) c b rs)

  -- one more read, which begins at c, and gives m of the n bytes up to b
  reaching_more : (a c b n m : ℕ) (rs : List (ℕ × ℕ)) → Reaching a c b rs → c + n ≡ b → 0 < m → m ≤ n → Gives step n m → Reaching a (c + m) b (rs ++ (c, n) ∷ [])
  reaching_more a c b n m [] h to some within gives = (sym h, omega arith, (m, some, within, gives, omega arith))
  reaching_more a c b n m (r ∷ rs) h to some within gives =
      let tail = h.2 in
      (h.0, h.1, (tail.0, tail.1, tail.2, tail.3, reaching_more (a + tail.0) c b n m rs tail.4 to some within gives))

  -- with reads that cover the rest
  covering : (a c b : ℕ) (rs rest : List (ℕ × ℕ)) → Reaching a c b rs → Covering step c b rest → Covering step a b (rs ++ rest)
  covering a c b [] rest h whole = subst (λ from. Covering step from b rest) (sym h) whole
  covering a c b (r ∷ rs) rest h whole =
      let tail = h.2 in
      (h.0, h.1, (tail.0, tail.1, tail.2, tail.3, covering (a + tail.0) c b rs rest tail.4 whole))

  -- reads that cover n bytes from c on
  rest_of : (most c n : ℕ) → n ≤ most → (rest : List (ℕ × ℕ)) × Covering step c (c + n) rest
  rest_of zero c n within = ([], omega arith)
  rest_of (suc most) c zero within = ([], omega arith)
  rest_of (suc most) c (suc n) within =
      let read = gives_some step (suc n) (omega arith) in
      let m = read.0 in
      let short : m ≤ suc n = read.2 in
      let more = rest_of most (c + m) (suc n - m) (omega (arith, read.1)) in
      let to : c + m + (suc n - m) ≡ c + suc n = omega arith in
      ((c, suc n) ∷ more.0, (refl, refl, (m, read.1, short, read.3, subst (λ b. Covering step (c + m) b more.0) to more.1)))

  rising : (a b : ℕ) (rs rest : List (ℕ × ℕ)) → Covering step a b (rs ++ rest) → Rising a b rs
  rising a b [] rest h = tt
  rising a b (r ∷ rs) rest h =
      let tail = h.2 in
      let after = rising (a + tail.0) b rs rest tail.4 in
      (omega arith, omega arith, omega arith, rising_from (r.0 + 1) (a + tail.0) b rs after (omega arith))

  -- ---- records of reads, if they are told

  -- reads from a on, each of which asks for all up to b, were added to the record, if it is told. The next one begins at c
  abbrev pub AsksUpTo : Option (List (ℕ × ℕ)) → Option (List (ℕ × ℕ)) → ℕ → ℕ → ℕ → Type 0
  AsksUpTo None new a c b = new ≡ None
  AsksUpTo (Some old) new a c b = (more : List (ℕ × ℕ)) × (new ≡ Some (old ++ more)) × Reaching a c b more

  pub asks_more : (old mid new : Option (List (ℕ × ℕ))) (a c d b n m : ℕ) → AsksUpTo old mid a c b → AsksOne mid new (c, n) → c + n ≡ b → 0 < m → m ≤ n → Gives step n m → c + m ≡ d
      → AsksUpTo old new a d b
  asks_more None mid new a c d b n m h one to some within gives next = subst (λ r. AsksOne r new (c, n)) h one
  asks_more (Some old) mid new a c d b n m h one to some within gives next =
      let e : new ≡ Some ((old ++ h.0) ++ (c, n) ∷ []) = subst (λ r. AsksOne r new (c, n)) h.1 one in (
        h.0 ++ (c, n) ∷ [],
        e ∙ ap Some (append_assoc old h.0 ((c, n) ∷ [])),
        subst (λ d. Reaching a d b (h.0 ++ (c, n) ∷ [])) next (reaching_more a c b n m h.0 h.2 to some within gives),
      )

  -- the next read would begin at the end
  pub asks_whole : (old new : Option (List (ℕ × ℕ))) (a c b : ℕ) → AsksUpTo old new a c b → c ≡ b → AsksWhole step old new a b
  asks_whole None new a c b h end = h
  asks_whole (Some old) new a c b h end =
      (h.0, h.1, subst (Covering step a b) (append-nil h.0) (covering a c b h.0 [] h.2 end))

  -- more reads would cover the rest
  pub asks_prefix : (old new : Option (List (ℕ × ℕ))) (a c b : ℕ) → AsksUpTo old new a c b → c ≤ b → AsksPrefix step old new a b
  asks_prefix None new a c b h within = h
  asks_prefix (Some old) new a c b h within =
      let rest = rest_of (b - c) c (b - c) (omega arith) in
      let to : c + (b - c) ≡ b = omega arith in
      (h.0, rest.0, h.1, covering a c b h.0 rest.0 h.2 (subst (λ end. Covering step c end rest.0) to rest.1))

  -- the next read failed, and was recorded or not
  pub asks_failed : (old mid new : Option (List (ℕ × ℕ))) (a c b n : ℕ) → AsksUpTo old mid a c b → AsksOne mid new (c, n) ⊎ (new ≡ mid) → c + n ≡ b → 0 < n → AsksPrefix step old new a b
  asks_failed old mid new a c b n h failed to some =
      ⊎_elim
      (λ one.
      let read = gives_some step n some in
      let short : read.0 ≤ n = read.2 in
      asks_prefix old new a (c + read.0) b (asks_more old mid new a c (c + read.0) b n read.0 h one to read.1 short read.3 refl) (omega arith))
      (λ same. asks_prefix old new a c b (subst (λ r. AsksUpTo old r a c b) (sym same) h) (omega arith))
      failed

  -- a prefix of reads that cover a range rises within it
  pub asks : (old new : Option (List (ℕ × ℕ))) (a b : ℕ) → AsksPrefix step old new a b → Asks old new a b
  asks None new a b h = h
  asks (Some old) new a b h = (h.0, h.2, rising a b h.0 h.1 h.3)

-- ---- a source that gives all

no_read : (step : Option ℕ) (a b : ℕ) (rs : List (ℕ × ℕ)) → Covering step a b rs → a ≡ b → rs ≡ []
no_read step a b [] h empty = refl
no_read step a b (r ∷ rs) h empty = let tail = h.2 in absurd (omega (arith, tail.1, tail.2))

one_read : (a n : ℕ) (rs : List (ℕ × ℕ)) → Covering (Some 0) a (a + n) rs → 0 < n → rs ≡ (a, n) ∷ []
one_read a n [] h some = absurd (omega arith)
one_read a n (r ∷ rs) h some =
    let tail = h.2 in
    let length_is : r.1 ≡ n = omega arith in
    let rest : rs ≡ [] = no_read (Some 0) (a + tail.0) (a + n) rs tail.4 (omega (arith, tail.3)) in
    λ i. (h.0 i, length_is i) ∷ rest i

-- if a read gives all, one read covers a range that is not empty
pub asks_one : (old new : Option (List (ℕ × ℕ))) (a n : ℕ) → AsksWhole (Some 0) old new a (a + n) → 0 < n → AsksOne old new (a, n)
asks_one None new a n h some = h
asks_one (Some old) new a n h some = h.1 ∙ ap (λ rs. Some (old ++ rs)) (one_read a n h.0 h.2 some)

-- ---- what the reads fill

drop_at_seam : (xs ys : List ℕ) (n : ℕ) → length xs ≡ n → drop n (xs ++ ys) ≡ ys
drop_at_seam xs ys n e = subst (λ m. drop m (xs ++ ys) ≡ ys) e (drop-append_seam xs ys)

-- with a part put in at n, the first n + m items are the first n of before and the first m of the part
take-put_mid_past : (n m k : ℕ) (into part : List ℕ) → n ≤ length into → m ≤ length part → take (n + m) (put_mid n k into part) ≡ take n into ++ take m part
take-put_mid_past n m k into part inside short =
    let long = length-take-le n into inside in
    let rest = part ++ post_of n k into in
    let first : take n (put_mid n k into part) ≡ take n into = take_at (take n into) rest n long in
    let after : drop n (put_mid n k into part) ≡ rest = drop_at_seam (take n into) rest n long in
    take-add n m (put_mid n k into part) ∙ (λ i. first i ++ take m (after i)) ∙ ap (λ l. take n into ++ l) (take-append-le m part (post_of n k into) short)

-- a read of m bytes after n that are held already
pub holds_more : (told : Option (List ℕ)) (offset n m k : ℕ) (into part : List ℕ) → n ≤ length into → m ≤ length part
    → Holds told offset n (take n into) → Fills told (offset + n) m (mid_of n k into) part → Holds told offset (n + m) (take (n + m) (put_mid n k into part))
holds_more None offset n m k into part inside short h f = tt
holds_more (Some all) offset n m k into part inside short h f =
    let read : take m part ≡ take m (drop (offset + n) all) =
    rw f.1 (take_at (take m (drop (offset + n) all)) (drop m (mid_of n k into)) m (length-take-le m (drop (offset + n) all) f.0)) in (
      (let enough = f.0 in omega (arith, length-drop offset all, length-drop (offset + n) all)),
      take-put_mid_past n m k into part inside short ∙ (λ i. h.1 i ++ read i) ∙ rw (← drop-drop n offset all) (sym (take-add n m (drop offset all))),
    )
