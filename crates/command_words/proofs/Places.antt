-- The rules that `clap` makes of a command's parameters, and what is known of each.
use Rattle.std.proofs.Common.{◌≡◌, ◌+◌, ℕ, Bool, true, false, not, refl, List, [], ◌∷◌, Option, Some, None, codes}
use Rattle.std.specs.Prelude.{min, if◌then◌else◌}
use Rattle.clap.specs.Lexer.{usize_max}
use Rattle.clap.specs.Walk.{Row, Rule, Text, is_multiple, most_values, takes_several, takes_values, used, with_values, without, arg_by_id, arg_by_index}
use Rattle.clap.specs.Simple.{filled, with_index}
use Rattle.clap.specs.Kinds.{Kinds, or_else}
use Rattle.clap.specs.Faults.{use_fault, repeat_fault}
use Rattle.clap.specs.declared.error.kind.ErrorKind.{ErrorKind}
use Rattle.clap.specs.declared.error.kind.ErrorKind.TheVariants as kind
use Rattle.clap.specs.declared.builder.value_parser.Reading.TheVariants.{AsWritten}
use Rattle.clap.specs.declared.parser.matches.ValueSource.TheVariants.{CommandLine}
use Rattle.command_words.specs.Parameters.{Parameter, text, positional_number, flag, number, required_number, id_of, is_flag, is_required, takes, is_number_in}
use Rattle.command_words.specs.Rules.{rule_by}

-- the rule of a parameter in a command that is built, at this place
abbrev pub placed : Parameter → ℕ → Rule
placed p i = with_index i (filled (rule_by p))

pub placed-id : (p : Parameter) (i : ℕ) → (placed p i).id ≡ id_of p
placed-id (text id) i = refl
placed-id (positional_number id low high) i = refl
placed-id (flag id) i = refl
placed-id (number id low high default) i = refl
placed-id (required_number id low high) i = refl

pub placed-required : (p : Parameter) (i : ℕ) → (placed p i).required ≡ is_required p
placed-required (text id) i = refl
placed-required (positional_number id low high) i = refl
placed-required (flag id) i = refl
placed-required (number id low high default) i = refl
placed-required (required_number id low high) i = refl

pub placed-takes : (p : Parameter) (i : ℕ) → takes_values (placed p i) ≡ not (is_flag p)
placed-takes (text id) i = refl
placed-takes (positional_number id low high) i = refl
placed-takes (flag id) i = refl
placed-takes (number id low high default) i = refl
placed-takes (required_number id low high) i = refl

-- it takes no second value
pub record IsSingle (r : Rule) : Type 0 where
  pub several : takes_several r ≡ false
  pub multiple : is_multiple r ≡ false
  pub trailing : r.trailing_var_arg ≡ false

pub placed-single : (p : Parameter) (i : ℕ) → IsSingle (placed p i)
placed-single (text id) i = record { several = refl; multiple = refl; trailing = refl }
placed-single (positional_number id low high) i = record { several = refl; multiple = refl; trailing = refl }
placed-single (flag id) i = record { several = refl; multiple = refl; trailing = refl }
placed-single (number id low high default) i = record { several = refl; multiple = refl; trailing = refl }
placed-single (required_number id low high) i = record { several = refl; multiple = refl; trailing = refl }

-- it takes one value
pub record TakesOne (r : Rule) : Type 0 where
  pub most : most_values r ≡ 1

pub placed-one : (p : Parameter) (i : ℕ) → is_flag p ≡ false → TakesOne (placed p i)
placed-one (text id) i e = record { most = refl }
placed-one (positional_number id low high) i e = record { most = refl }
placed-one (flag id) i e = cc
placed-one (number id low high default) i e = record { most = refl }
placed-one (required_number id low high) i e = record { most = refl }

-- ---- one use

-- the rest, if there is no fault before it
abbrev pub after : {X : Type 0} → Kinds → Option X → Option X
after [] o = o
after (k ∷ ks) o = None

pub after-none : {X : Type 0} (f : Kinds) → ◌≡◌ {A = Option X} (after f None) None
after-none [] = refl
after-none (k ∷ ks) = refl

pub or_else-nil : (f : Kinds) → or_else f [] ≡ f
or_else-nil [] = refl
or_else-nil (k ∷ ks) = refl

pub after-or_else : {X : Type 0} (f g : Kinds) (o : Option X) → after (or_else f g) o ≡ after f (after g o)
after-or_else [] g o = refl
after-or_else (k ∷ ks) g o = refl

abbrev pub row_added : Text → Text → List Row → List Row
row_added id value rows = with_values id AsWritten CommandLine (value ∷ []) (without id rows)

checked_use : {X : Type 0} (repeat : Kinds) (passes : Bool) (k : ErrorKind) (o : Option X)
    → after (or_else repeat (or_else (if passes then [] else k ∷ []) [])) o ≡ (if passes then after repeat o else None)
checked_use [] true k o = refl
checked_use [] false k o = refl
checked_use (r ∷ rs) true k o = refl
checked_use (r ∷ rs) false k o = refl

-- a value is a use, if the parameter takes it and was not used before
pub use-value : {X : Type 0} (p : Parameter) (i : ℕ) (value : Text) (rows : List Row) (o : Option X) → is_flag p ≡ false
    → after (use_fault false (placed p i) (value ∷ []) rows) o ≡ (if takes p value then after (repeat_fault false (id_of p) rows) o else None)
use-value (text id) i value rows o e = checked_use (repeat_fault false id rows) true kind.ValueValidation o
use-value (positional_number id low high) i value rows o e = checked_use (repeat_fault false id rows) (is_number_in low high value) kind.ValueValidation o
use-value (flag id) i value rows o e = cc
use-value (number id low high default) i value rows o e = checked_use (repeat_fault false id rows) (is_number_in low high value) kind.ValueValidation o
use-value (required_number id low high) i value rows o e = checked_use (repeat_fault false id rows) (is_number_in low high value) kind.ValueValidation o

pub used-value : (p : Parameter) (i : ℕ) (value : Text) (rows : List Row) → is_flag p ≡ false
    → used (placed p i) (value ∷ []) rows ≡ row_added (id_of p) value rows
used-value (text id) i value rows e = refl
used-value (positional_number id low high) i value rows e = refl
used-value (flag id) i value rows e = cc
used-value (number id low high default) i value rows e = refl
used-value (required_number id low high) i value rows e = refl

-- a flag is a use, if it was not used before
pub use-flag : (p : Parameter) (i : ℕ) (rows : List Row) → is_flag p ≡ true → use_fault false (placed p i) [] rows ≡ repeat_fault false (id_of p) rows
use-flag (text id) i rows e = cc
use-flag (positional_number id low high) i rows e = cc
use-flag (flag id) i rows e = or_else-nil (repeat_fault false id rows)
use-flag (number id low high default) i rows e = cc
use-flag (required_number id low high) i rows e = cc

pub used-flag : (p : Parameter) (i : ℕ) (rows : List Row) → is_flag p ≡ true → used (placed p i) [] rows ≡ row_added (id_of p) (codes "true") rows
used-flag (text id) i rows e = cc
used-flag (positional_number id low high) i rows e = cc
used-flag (flag id) i rows e = refl
used-flag (number id low high default) i rows e = cc
used-flag (required_number id low high) i rows e = cc

-- a value has to be there
pub use-missing : (p : Parameter) (i : ℕ) (rows : List Row) → is_flag p ≡ false → use_fault false (placed p i) [] rows ≡ kind.InvalidValue ∷ []
use-missing (text id) i rows e = refl
use-missing (positional_number id low high) i rows e = refl
use-missing (flag id) i rows e = cc
use-missing (number id low high default) i rows e = refl
use-missing (required_number id low high) i rows e = refl

-- ---- what is known of the rules of a command

-- the rule with its id is its own
abbrev pub IsKnown : List Rule → Parameter → Type 0
IsKnown c p = (i : ℕ) × (arg_by_id c (id_of p) ≡ Some (placed p i))

-- these parameters have the places from i on, and there is none after them
abbrev pub HavePlaces : List Rule → ℕ → List Parameter → Type 0
HavePlaces c i [] = arg_by_index c i ≡ None
HavePlaces c i (p ∷ ps) = (arg_by_index c i ≡ Some (placed p i)) × (is_flag p ≡ false) × IsKnown c p × HavePlaces c (min (i + 1) usize_max) ps
