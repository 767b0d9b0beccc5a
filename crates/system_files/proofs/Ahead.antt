-- What is handed out of a buffer that was read ahead.
-- Used by `FileSource`.
use Rattle.std.proofs.Common.{◌≡◌, ℕ, ◌+◌, ◌-◌, ◌≤◌, List, ◌++◌, length, take, drop, Option, Some, None, refl, sym, ap, ◌∙◌, subst, arith, length-drop}
use Rattle.std.proofs.lemmas.List.{drop-take, drop-drop, take-append-drop, take-append-le, length-take-le}
use Rattle.std.specs.Option.{ForSome}
use Rattle.source_io.specs.Told.{Holds, Fills, SizeIs}

-- the size of told bytes
pub size_is : (told : Option (List ℕ)) (n : ℕ) → ForSome told (λ all. n ≡ length all) → SizeIs told n
size_is None n h = tt
size_is (Some all) n h = h all refl

-- nothing is held
pub holds_nothing : (told : Option (List ℕ)) (start : ℕ) (list : List ℕ) → Holds told start 0 (take 0 list)
holds_nothing None start list = tt
holds_nothing (Some all) start list = (omega arith, refl)

-- the first n items after the first k of a list are items of a prefix that has them all
take-drop_within : (k n : ℕ) (prefix rest : List ℕ) → k + n ≤ length prefix → take n (drop k (prefix ++ rest)) ≡ take n (drop k prefix)
take-drop_within k n prefix rest inside = sym (drop-take k n (prefix ++ rest)) ∙ ap (drop k) (take-append-le (k + n) prefix rest inside) ∙ drop-take k n prefix

take-drop_prefix : (k n held : ℕ) (list : List ℕ) → k + n ≤ held → held ≤ length list → take n (drop k list) ≡ take n (drop k (take held list))
take-drop_prefix k n held list inside long =
    ap (λ l. take n (drop k l)) (sym (take-append-drop held list)) ∙ take-drop_within k n (take held list) (drop held list) (subst (λ m. k + n ≤ m) (sym (length-take-le held list long)) inside)

-- n bytes of those that are held, from an offset on
pub fills_held : (told : Option (List ℕ)) (start held offset n : ℕ) (buffer old new : List ℕ) → start ≤ offset → offset + n ≤ start + held → held ≤ length buffer → Holds told start held (take held buffer)
    → new ≡ take n (drop (offset - start) buffer) ++ drop n old → drop n new ≡ drop n old → Fills told offset n old new
fills_held None start held offset n buffer old new after inside long holds filled rest = rest
fills_held (Some all) start held offset n buffer old new after inside long holds filled rest =
    let k = offset - start in
    let within : k + n ≤ held = omega arith in
    let same : take n (drop k buffer) ≡ take n (drop k (drop start all)) =
    take-drop_prefix k n held buffer within long ∙ ap (λ l. take n (drop k l)) holds.1 ∙ sym (take-drop_prefix k n held (drop start all) within holds.0) in
    let begins : take n (drop k (drop start all)) ≡ take n (drop offset all) = ap (take n) (drop-drop k start all ∙ ap (λ m. drop m all) (omega arith)) in
    (let enough = holds.0 in omega (arith, length-drop start all, length-drop offset all), filled ∙ ap (λ l. l ++ drop n old) (same ∙ begins))
