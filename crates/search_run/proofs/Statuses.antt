-- From an ending to its status: what the ending says about the output, the status says too.
-- Used by the top call.
use Rattle.std.proofs.Common.{◌≡◌, ℕ, ◌≤◌, List, [], Option, Some, None, inl, inr, sym, ap, ◌∙◌, subst, arith}
use Rattle.lists.specs.Appending.{AppendsPrefix}
use Rattle.lists.proofs.Appending.{prefix_whole, prefix_nothing, prefix_of_nil, appended-nil}
use Rattle.report.specs.Status.{status_of, message_of, Says}
use Rattle.report.specs.declared.ending.Ending.{Ending}
use Rattle.report.specs.declared.ending.Ending.TheVariants.{Done, Refused, Failed}
use Rattle.search_run.specs.Ends.{EndsAs, Prints, PrintsWhole, PrintsPrefix, IsStatus}

pub status_is : (told : Option Ending) (e : Ending) (s : ℕ) → s ≡ status_of e → EndsAs told e → IsStatus told s
status_is None e s is h = tt
status_is (Some verdict) Done s is h = inl (is ∙ ap status_of (sym h))
status_is (Some verdict) (Refused r) s is h = inl (is ∙ ap status_of (sym h))
status_is (Some verdict) (Failed f) s is h = inr (omega arith)

pub whole_is : (told : Option (List ℕ)) (e : Ending) (s : ℕ) (old new : Option (List ℕ)) → s ≡ status_of e → Prints e told old new → s ≡ 0 → PrintsWhole told old new
whole_is told Done s old new is h z = h
whole_is told (Refused r) s old new is h z = absurd (omega arith)
whole_is told (Failed f) s old new is h z = absurd (omega arith)

unchanged : (old new : Option (List ℕ)) (bytes : List ℕ) → new ≡ old → AppendsPrefix old bytes new
unchanged old new bytes e = subst (λ told. AppendsPrefix old bytes told) (sym e) (prefix_nothing old bytes)

pub prefix_is : (told : Option (List ℕ)) (e : Ending) (old new : Option (List ℕ)) → Prints e told old new → PrintsPrefix told old new
prefix_is None Done old new h = tt
prefix_is None (Refused r) old new h = tt
prefix_is None (Failed f) old new h = tt
prefix_is (Some bytes) Done old new h = prefix_whole old new bytes h
prefix_is (Some bytes) (Refused r) old new h = unchanged old new bytes h
prefix_is (Some bytes) (Failed f) old new h = h

pub silent_is : (told : Option (List ℕ)) (e : Ending) (s : ℕ) (old new : Option (List ℕ)) → s ≡ status_of e → Prints e told old new → 2 ≤ s → s ≤ 4 → new ≡ old
silent_is told Done s old new is h low high = absurd (omega arith)
silent_is told (Refused r) s old new is h low high = h
silent_is told (Failed f) s old new is h low high = absurd (omega arith)

-- an empty line says nothing
says_nothing : (R : Type 0) (old new : Option (List ℕ)) → Says [] R old new → new ≡ old
says_nothing R old new (inl e) = e ∙ appended-nil old
says_nothing R old new (inr h) = prefix_of_nil old new h.1

pub quiet_is : (R : Type 0) (e : Ending) (s : ℕ) (old new : Option (List ℕ)) → s ≡ status_of e → Says (message_of e) R old new → s ≡ 0 → new ≡ old
quiet_is R Done s old new is h z = says_nothing R old new h
quiet_is R (Refused r) s old new is h z = absurd (omega arith)
quiet_is R (Failed f) s old new is h z = absurd (omega arith)
