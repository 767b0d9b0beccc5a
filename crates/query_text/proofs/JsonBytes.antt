-- Bytes as JSON.
use Rattle.std.proofs.Common.{◌≡◌, ℕ, Bool, true, false, List, Some, None, Err, if◌then◌else◌, refl, ap, ◌∙◌}
use Rattle.std.specs.Str.{IsUtf8, is_utf8}
use Rattle.std.proofs.lemmas.Str.{IsUtf8-from_is_utf8, is_utf8-from_IsUtf8}
use Rattle.serde_json.specs.Data.{Data}
use Rattle.serde_json.specs.Read.{read}
use Rattle.query_text.specs.declared.refusal.QueryRefusal.TheVariants.{NotJson}
use Rattle.query_text.specs.Json.{json_of}
use Rattle.query_text.specs.Walk.{◌>>=◌, or_refuse, walk_query, walk_bytes}

-- bytes that are read as a value are walked as that value
pub walk_bytes-value : (rank : ℕ) (bytes : List ℕ) (d : Data) → IsUtf8 bytes → read bytes ≡ Some d → walk_bytes rank bytes ≡ walk_query rank d
walk_bytes-value rank bytes d text e =
    let is_json : json_of bytes ≡ Some d = ap (λ (b : Bool). if b then read bytes else None) (is_utf8-from_IsUtf8 bytes text) ∙ e in
    ap (λ o. or_refuse NotJson o >>= walk_query rank) is_json

none_by : (bytes : List ℕ) (b : Bool) → is_utf8 bytes ≡ b → (IsUtf8 bytes → read bytes ≡ None) → (if b then read bytes else None) ≡ None
none_by bytes true e h = h (IsUtf8-from_is_utf8 bytes e)
none_by bytes false e h = refl

-- bytes that are not JSON are refused as `NotJson`
pub walk_bytes-none : (rank : ℕ) (bytes : List ℕ) → (IsUtf8 bytes → read bytes ≡ None) → walk_bytes rank bytes ≡ Err NotJson
walk_bytes-none rank bytes h = ap (λ o. or_refuse NotJson o >>= walk_query rank) (none_by bytes (is_utf8 bytes) refl h)
