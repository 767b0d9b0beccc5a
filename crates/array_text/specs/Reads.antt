-- What reading answers: what the walk gives, or out of memory.
-- Used in this crate alone.
use Rattle.std.specs.Prelude.{◌≡◌, ℕ, List, Option, Result, Ok, Err, option_map, ⊤}
use Rattle.array_text.specs.declared.fault.TextFault.{TextFault}
use Rattle.array_text.specs.declared.fault.TextFault.TheVariants.{Refused, NoMemory}
use Rattle.array_text.specs.declared.fault.TextRefusal.{TextRefusal}
use Rattle.array_text.specs.Walk.{Walked, Rest}
use Rattle.array_text.specs.Words.{words, first_word, after_word}

-- a value is seen as the one that the walk gives, or it is the walk's refusal, or memory ran out
abbrev pub Gives : {T X : Type 0} → (T → X) → Walked X → Result T TextFault → Type 0
Gives seen walked (Ok x) = walked ≡ Ok (seen x)
Gives seen walked (Err (Refused r)) = walked ≡ Err r
Gives seen walked (Err NoMemory) = ⊤

-- the same if no memory is taken
abbrev pub Shows : {T X : Type 0} → (T → X) → Walked X → Result T TextRefusal → Type 0
Shows seen walked (Ok x) = walked ≡ Ok (seen x)
Shows seen walked (Err r) = walked ≡ Err r

-- the rest of a text, whose next word has this number
abbrev pub rest_of : ℕ → List ℕ → Rest
rest_of next bytes = record { next = next; words = words bytes }

-- what a form reads in the first word, and the bytes after it
abbrev pub leading : {X : Type 0} → (List ℕ → Option X) → List ℕ → Option (X × List ℕ)
leading form bytes = option_map (λ x. (x, after_word bytes)) (form (first_word bytes))
