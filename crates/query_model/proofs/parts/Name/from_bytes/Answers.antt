use Rattle.std.proofs.Common.{◌≡◌, ℕ, List, ◌++◌, length, drop, replicate, sym, ap, subst}
use Rattle.std.proofs.lemmas.List.{drop-replicate}
use Rattle.query_model.specs.declared.parts.Name.{Name}
use Rattle.query_model.specs.NameForm.{IsName, name_of}
use Rattle.query_model.proofs.Names.{name_of-is_name}
use Rattle.query_model.proofs.parts.Name.from_bytes.Goals as goal

name_of-copied : (text copied : List ℕ) → copied ≡ text → (record { len = length text; bytes = copied ++ drop (length text) (replicate 32 0) }) ≡ name_of text
name_of-copied text copied same =
    let name : List ℕ → Name = λ bytes. record { len = length text; bytes = bytes } in
    ap name (λ i. same i ++ drop-replicate (length text) 32 0 i)

pub returns-clause-bytes : goal.returns-clause-bytes
returns-clause-bytes c = name_of-copied c.args.text.now _ c.copy_from_slice.ensures.after

pub returns-clause-form : goal.returns-clause-form
returns-clause-form c = let text = c.args.text.now in subst IsName (sym (name_of-copied text _ c.copy_from_slice.ensures.after)) (name_of-is_name text c.requires)
