-- Whole numbers within a bound, and texts that are one of some words.
use Rattle.std.proofs.Common.{◌≡◌, ℕ, ◌^◌, ◌<◌, Bool, true, false, ◌&&◌, nat_lt, ℤ, pos, neg_ℤ, ◌≤ℤ◌, ◌<ℤ◌, int_le, refl, sym, subst, ap, ◌∙◌, List, arith}
use Rattle.std.proofs.lemmas.Int.{ints}
use Rattle.std.proofs.lemmas.Option.{same_Some}
use Rattle.std.specs.Prelude.{Option, None, Some, option_and_then, if◌then◌else◌}
use Rattle.serde_json.specs.Data.{Data, Num, unsigned, negative, float}
use Rattle.serde_json.specs.Find.{as_integer, as_number, as_str}
use Rattle.lists.specs.Numbers.{IsWithin}
use Rattle.query_text.specs.declared.location.Location.{Location}
use Rattle.query_text.specs.declared.refusal.QueryRefusal.{QueryRefusal}
use Rattle.query_text.specs.Json.{whole_between}
use Rattle.query_text.specs.Limits.{IsLimit}
use Rattle.query_text.specs.Walk.{◌>>=◌, or_refuse, walk_whole, walk_number, walk_text}
use Rattle.query_text.proofs.Agrees.{Agrees, agrees_ok, agrees_none, agrees_limit, agrees_more, agrees_found, agrees_or_refuse}

int_le_from : (x y : ℤ) → x ≤ℤ y → int_le x y ≡ true
int_le_from x y h = grind (arith, ints)

both_true : (a b : Bool) → a ≡ true → b ≡ true → a && b ≡ true
both_true a b p q = ap (λ x. x && b) p ∙ q

-- from low up to high
abbrev pub IsBetween : ℤ → ℤ → ℤ → Type 0
IsBetween low high z = (low ≤ℤ z) × (z ≤ℤ high)

tested : (P : ℤ → Type 0) (b : Bool) (z : ℤ) (r : QueryRefusal) → IsLimit r → (P z → b ≡ true) → Agrees P (Some z) (or_refuse r (if b then Some z else None))
tested P true z r limit kept = agrees_ok P z
tested P false z r limit kept = agrees_limit P (Some z) r limit (λ y e p. let yes = kept (subst P (sym (same_Some z y e)) p) in absurd (cc))

between : (low high z : ℤ) (r : QueryRefusal) → IsLimit r → Agrees (IsBetween low high) (Some z) (or_refuse r (if int_le low z && int_le z high then Some z else None))
between low high z r limit = tested (IsBetween low high) (int_le low z && int_le z high) z r limit (λ p. both_true (int_le low z) (int_le z high) (int_le_from low z p.0) (int_le_from z high p.1))

too_large : (m : ℕ) (high : ℤ) → nat_lt m (2 ^ 63) ≡ false → high <ℤ pos (2 ^ 63) → pos m ≤ℤ high → ⊥
too_large m high e h k = grind (arith, ints)

pub agrees_between : (low high : ℤ) (r : QueryRefusal) (n : Num) → IsLimit r → high <ℤ pos (2 ^ 63) → Agrees (IsBetween low high) (as_integer n) (or_refuse r (whole_between low high n))
agrees_between low high r (unsigned m) limit below = by (nat_lt m (2 ^ 63)) refl
  where
    by : (b : Bool) → nat_lt m (2 ^ 63) ≡ b
        → Agrees (IsBetween low high) (Some (pos m)) (or_refuse r (option_and_then (λ z. if int_le low z && int_le z high then Some z else None) (if b then Some (pos m) else None)))
    by true e = between low high (pos m) r limit
    by false e = agrees_limit (IsBetween low high) (Some (pos m)) r limit (λ y s p. too_large m high e below (subst (λ z. z ≤ℤ high) (sym (same_Some (pos m) y s)) p.1))
agrees_between low high r (negative z) limit below = between low high z r limit
agrees_between low high r (float x) limit below = agrees_none (IsBetween low high) r

-- within the bound
abbrev pub IsUpTo : ℕ → ℤ → Type 0
IsUpTo bound z = IsWithin z bound

pub agrees_whole : (bound : ℕ) (at : Location) (n : Num) → bound < 2 ^ 63 → Agrees (IsUpTo bound) (as_integer n) (walk_whole bound at n)
agrees_whole bound at n small =
    agrees_more (IsBetween (neg_ℤ (pos bound)) (pos bound)) (IsUpTo bound) _ _ (λ z e p. (p.low, p.high)) (agrees_between (neg_ℤ (pos bound)) (pos bound) (QueryRefusal.Number at) n tt (search (arith, ints)))

pub agrees_number : (bound : ℕ) (at : Location) (found : Option Data) → bound < 2 ^ 63 → Agrees (IsUpTo bound) (option_and_then as_integer (option_and_then as_number found)) (walk_number bound at found)
agrees_number bound at found small = agrees_found (IsUpTo bound) (QueryRefusal.Shape at) (option_and_then as_number found) as_integer (walk_whole bound at) (λ n e. agrees_whole bound at n small)

-- a text that is one of some words
pub agrees_word : {X : Type 0} (P : X → Type 0) (at : Location) (r : QueryRefusal) (named : List ℕ → Option X) (found : Option Data)
    → Agrees P (option_and_then named (option_and_then as_str found)) (walk_text at found >>= (λ text. or_refuse r (named text)))
agrees_word P at r named found =
    agrees_found P (QueryRefusal.Shape at) (option_and_then as_str found) named (λ text. or_refuse r (named text)) (λ text e. agrees_or_refuse P r (named text))

-- ---- the bounds

pub small_10 : 1024 < 2 ^ 63
small_10 = omega arith

pub small_20 : 2 ^ 20 < 2 ^ 63
small_20 = omega arith

pub small_31 : 2 ^ 31 < 2 ^ 63
small_31 = omega arith

pub small_52 : 2 ^ 52 < 2 ^ 63
small_52 = omega arith
