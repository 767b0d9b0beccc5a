-- The keys of an object, as the map has them.
use Rattle.std.proofs.Common.{◌≡◌, Bool, ◌||◌, List, [], ◌∷◌, map, refl, ap, ◌∙◌, String, Global}
use Rattle.std.specs.List.{list_any}
use Rattle.std.specs.String.{string_bytes}
use Rattle.serde_json.specs.declared.value.Value.{Value}
use Rattle.serde_json.specs.Data.{Data}
use Rattle.serde_json.specs.View.{members_view, members_of, view}
use Rattle.query_text.specs.Json.{keys_of}

-- a test of what is shown
pub list_any-map : {X Y : Type 0} (p : Y → Bool) (f : X → Y) (xs : List X) → list_any p (map f xs) ≡ list_any (λ x. p (f x)) xs
list_any-map p f [] = refl
list_any-map p f (x ∷ xs) = ap (λ b. p (f x) || b) (list_any-map p f xs)

keys_of-members_of : (es : List (String Global × Data)) → keys_of (members_of es) ≡ map (λ (e : String Global × Data). string_bytes e.0) es
keys_of-members_of [] = refl
keys_of-members_of (e ∷ es) = ap (λ ks. string_bytes e.0 ∷ ks) (keys_of-members_of es)

firsts : (es : List (String Global × Value)) → map (λ (e : String Global × Data). string_bytes e.0) (map (λ m. (m.0, view m.1)) es) ≡ map string_bytes (map (λ (e : String Global × Value). e.0) es)
firsts [] = refl
firsts (e ∷ es) = ap (λ ks. string_bytes e.0 ∷ ks) (firsts es)

-- the keys are the texts of the map's keys
pub keys_of-members_view : (es : List (String Global × Value)) → keys_of (members_view es) ≡ map string_bytes (map (λ (e : String Global × Value). e.0) es)
keys_of-members_view es = keys_of-members_of (map (λ m. (m.0, view m.1)) es) ∙ firsts es
