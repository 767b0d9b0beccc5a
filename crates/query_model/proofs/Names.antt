-- Names made of the bytes of a text.
-- Used by `Name::from_bytes`.
use Rattle.std.proofs.Common.{◌≡◌, ℕ, ◌-◌, ◌≤◌, true, nat_le, List, length, replicate, slice_index, ap, ◌∙◌, arith}
use Rattle.std.specs.List.{list_all}
use Rattle.std.proofs.Math.Seq.{take-append_seam, drop-append_seam}
use Rattle.std.proofs.lemmas.Bool.{and_parts}
use Rattle.query_model.specs.NameForm.{IsName, is_name, begins_name, continues_name, name_of}

nat_le-at_most : (m n : ℕ) → nat_le m n ≡ true → m ≤ n
nat_le-at_most m n h = grind (arith, h)

pub is_name_short : (text : List ℕ) → is_name text ≡ true → length text ≤ 32
is_name_short text h =
    let c = and_parts _ (list_all continues_name text) h in
    let d = and_parts _ (begins_name (slice_index text 0)) c.0 in
    nat_le-at_most _ _ (and_parts (nat_le 1 (length text)) (nat_le (length text) 32) d.0).1

-- bytes of the form of names are those of a name
pub name_of-is_name : (text : List ℕ) → is_name text ≡ true → IsName (name_of text)
name_of-is_name text h = record {
  short = is_name_short text h;
  form = ap is_name (take-append_seam text (replicate (32 - length text) 0)) ∙ h;
  padded = drop-append_seam text (replicate (32 - length text) 0);
}
