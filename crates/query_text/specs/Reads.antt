-- What reading may answer: what the walk gives, or out of memory.
-- The contracts of the functions that read use it.
use Rattle.std.specs.Prelude.{◌≡◌, Result, Ok, Err, ⊤}
use Rattle.query_text.specs.declared.fault.QueryFault.{QueryFault}
use Rattle.query_text.specs.declared.fault.QueryFault.TheVariants.{Refused, NoMemory}
use Rattle.query_text.specs.declared.refusal.QueryRefusal.{QueryRefusal}
use Rattle.query_text.specs.Walk.{Walked}

-- a value is seen as the one that the walk gives, or it is the walk's refusal, or memory ran out
abbrev pub Gives : {T X : Type 0} → (T → X) → Walked X → Result T QueryFault → Type 0
Gives seen walked (Ok x) = walked ≡ Ok (seen x)
Gives seen walked (Err (Refused r)) = walked ≡ Err r
Gives seen walked (Err NoMemory) = ⊤

-- the same if no memory is taken
abbrev pub Shows : {T X : Type 0} → (T → X) → Walked X → Result T QueryRefusal → Type 0
Shows seen walked (Ok x) = walked ≡ Ok (seen x)
Shows seen walked (Err r) = walked ≡ Err r

-- a value was changed to the one that the walk gives, or it is the walk's refusal
abbrev pub Changes : {T X : Type 0} → Walked X → Result T QueryRefusal → X → Type 0
Changes walked (Ok x) new = walked ≡ Ok new
Changes walked (Err r) new = walked ≡ Err r
