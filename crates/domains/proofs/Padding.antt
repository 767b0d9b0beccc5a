-- Eight items of which the first n count: one of them changed, and one more.
-- Used by `Point` and `VarBox`, which keep their items so.
use Rattle.std.proofs.Common.{◌≡◌, ℕ, ◌<◌, ◌≤◌, ◌+◌, ◌-◌, List, ◌++◌, take, drop, set, replicate, ap, sym, ◌∙◌, length, arith}
use Rattle.std.proofs.lemmas.List.{drop-set-lt, drop-drop, drop-replicate, length-set, length-take-le, length-append, length-replicate, drop_at}
use Rattle.domains.specs.Padded.{IsPadded}

pub length_padded : {X : Type 0} (filler : X) (n : ℕ) (items now : List X) → IsPadded filler n items → take n items ≡ now → length now ≡ n
length_padded filler n items now h e = sym (ap length e) ∙ length-take-le n items (omega (arith, h.within, h.eight))

pub padded_set : {X : Type 0} (filler : X) (n : ℕ) (items : List X) (v : ℕ) (x : X) → v < n → IsPadded filler n items → IsPadded filler n (set items v x)
padded_set filler n items v x below h =
    record { within = h.within; eight = length-set items v x ∙ h.eight; rest = drop-set-lt n items v x below ∙ h.rest }

pub padded_more : {X : Type 0} (filler : X) (n : ℕ) (items : List X) (x : X) → n < 8 → IsPadded filler n items → IsPadded filler (n + 1) (set items n x)
padded_more filler n items x below h =
    record {
      within = omega arith;
      eight = length-set items n x ∙ h.eight;
      rest = drop-set-lt (n + 1) items n x (omega arith) ∙ sym (drop-drop 1 n items) ∙ ap (drop 1) h.rest ∙ drop-replicate 1 (8 - n) filler ∙ ap (λ k. replicate k filler) (omega arith);
    }

-- n items put in place of the first of eight fillers
pub padded_fresh : {X : Type 0} (filler : X) (items new : List X) → new ≡ items → length items ≤ 8 → IsPadded filler (length items) (new ++ drop (length items) (replicate 8 filler))
padded_fresh filler items new e few =
    let long : length new ≡ length items = ap length e in
    let filling : drop (length items) (replicate 8 filler) ≡ replicate (8 - length items) filler = drop-replicate (length items) 8 filler in
    record {
      within = few;
      eight = length-append new (drop (length items) (replicate 8 filler)) ∙ ap (λ l. length new + length l) filling ∙ ap (λ n. length new + n) (length-replicate (8 - length items) filler) ∙ omega arith;
      rest = drop_at new (drop (length items) (replicate 8 filler)) (length items) long ∙ filling;
    }
