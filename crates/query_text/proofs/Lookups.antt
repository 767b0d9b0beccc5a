-- A look-up that finds nothing: every item has another name.
-- `read_new_name` of `variable` and `region` use it.
use Rattle.std.proofs.Common.{◌≡◌, ◌≢◌, ℕ, ◌<◌, ◌-◌, Bool, true, false, cond, nat_lt, List, length, replicate, get_or, Some, None, All, refl, sym, ap, ◌∙◌, arith}
use Rattle.std.specs.List.{position, position_or_len}
use Rattle.std.proofs.lemmas.List.Sums.{fails_before_first}
use Rattle.std.specs.Str.{bytes_eq}
use Rattle.std.proofs.lemmas.Slice.Eq.{bytes_eq-Decides}
use Rattle.std.proofs.lemmas.Bool.{both_ways}
use Rattle.std.proofs.lemmas.Option.{none-some}
use Rattle.std.proofs.Math.Seq.{take-append_seam}
use Rattle.query_model.specs.NameForm.{name_of}
use Rattle.query_model.specs.Text.{name_bytes}
use Rattle.query_model.specs.declared.parts.Name.{Name}

-- if none passes, each fails
pub none_at_position : {X : Type 0} (p : X → Bool) (xs : List X) → position p xs ≡ None → All (λ x. p x ≡ false) xs
none_at_position p xs none k d below = fails_before_first p xs k d (by_test (nat_lt (position_or_len p xs) (length xs)) refl none)
  where
    by_test : (b : Bool) → nat_lt (position_or_len p xs) (length xs) ≡ b → cond b (Some (position_or_len p xs)) None ≡ None → k < position_or_len p xs
    by_test true e h = absurd (none-some _ (sym h))
    by_test false e h = grind (arith, e, below)

pub name_bytes-name_of : (text : List ℕ) → name_bytes (name_of text) ≡ text
name_bytes-name_of text = take-append_seam text (replicate (32 - length text) 0)

-- if none has the name of a text, each has another name
pub other_names : {X : Type 0} (name : X → Name) (text : List ℕ) (xs : List X) → position (λ x. bytes_eq (name_bytes (name x)) text) xs ≡ None → All (λ x. name x ≢ name_of text) xs
other_names name text xs none k d below = λ same.
    let e : name_bytes (name (get_or xs k d)) ≡ text = ap name_bytes same ∙ name_bytes-name_of text in
    absurd (both_ways _ (none_at_position (λ x. bytes_eq (name_bytes (name x)) text) xs none k d below) ((bytes_eq-Decides _ text).1 e))
