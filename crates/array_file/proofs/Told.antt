-- What was read of a file, if its bytes are told. Used by `read_header`.
use Rattle.std.proofs.Common.{◌≡◌, ℕ, List, length, take, min, sym, Option, Some, None, Result, Ok, Err, is_err, false, OnOk, ap, ◌∙◌, subst}
use Rattle.std.proofs.lemmas.List.{take_min}
use Rattle.source_io.specs.Told.{Holds, SizeIs}
use Rattle.source_io.specs.Asked.{Asks}
use Rattle.layouts.specs.declared.numbers.LayoutNumbers.{LayoutNumbers}
use Rattle.array_file.specs.declared.refusal.FileRefusal.{FileRefusal}
use Rattle.array_file.specs.Header.{layout_refusal, stored_layout}
use Rattle.array_file.specs.Reads.{ReadsHeader}
use Rattle.array_file.specs.declared.header.HeaderFault.TheVariants.{Refused}

pub on_ok_then : {T E P : Type 0} (r : Result T E) → is_err r ≡ false → OnOk r P → P
on_ok_then (Ok x) e p = p
on_ok_then (Err x) e p = absurd (cc)

-- the first 96 bytes, or all of a shorter file
prefix_is : (all header : List ℕ) (size n : ℕ) → size ≡ length all → n ≡ min 96 size → header ≡ take n all → header ≡ take 96 all
prefix_is all header size n is_size is_n e = e ∙ ap (λ k. take k all) (is_n ∙ ap (min 96) is_size) ∙ take_min 96 all

pub refused : (told : Option (List ℕ)) (header : List ℕ) (size n : ℕ) (refusal : FileRefusal) → SizeIs told size → n ≡ min 96 size → Holds told 0 n header
    → layout_refusal header size ≡ Some refusal → ReadsHeader told (Err (Refused refusal))
refused None header size n refusal is_size is_n held e = tt
refused (Some all) header size n refusal is_size is_n held e =
    let prefix = prefix_is all header size n is_size is_n held.1 in
    subst (λ (k : ℕ). layout_refusal (take 96 all) k ≡ Some refusal) is_size
    (subst (λ (h : List ℕ). layout_refusal h size ≡ Some refusal) prefix e)

pub accepted : (told : Option (List ℕ)) (header : List ℕ) (size n : ℕ) (l : LayoutNumbers) → SizeIs told size → n ≡ min 96 size → Holds told 0 n header
    → layout_refusal header size ≡ None → l ≡ stored_layout header → ReadsHeader told (Ok l)
accepted None header size n l is_size is_n held e same = tt
accepted (Some all) header size n l is_size is_n held e same =
    let prefix = prefix_is all header size n is_size is_n held.1 in (
      ap (λ (k : ℕ). layout_refusal (take 96 all) k) (sym is_size) ∙ ap (λ (h : List ℕ). layout_refusal h size) (sym prefix) ∙ e,
      same ∙ ap stored_layout prefix,
    )

pub asks_to : (old new : Option (List (ℕ × ℕ))) (a b : ℕ) → a ≡ b → Asks old new 0 a → Asks old new 0 b
asks_to old new a b e asked = subst (Asks old new 0) e asked
