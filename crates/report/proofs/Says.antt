-- That a line was written, whole or in part. Used by what reports an ending.
use Rattle.std.proofs.Common.{◌≡◌, ℕ, List, Option, Result, Ok, Err, OnErr, inl, inr, subst}
use Rattle.source_io.specs.Written.{Writes}
use Rattle.report.specs.Status.{Says}

-- a piece that is the line was written, whole or in part
pub says : {T E R : Type 0} (r : Result T E) (line piece : List ℕ) (old new : Option (List ℕ)) → piece ≡ line → Writes r piece old new → OnErr r R → Says line R old new
says {R = R} (Ok x) line piece old new e w h = subst (λ l. Says l R old new) e (inl w)
says {R = R} (Err x) line piece old new e w h = subst (λ l. Says l R old new) e (inr (h, w))
