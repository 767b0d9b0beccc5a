use Rattle.std.proofs.Common.{sym, ap, ◌∙◌}
use Rattle.query_model.specs.NameForm.{name_of}
use Rattle.query_model.specs.declared.parts.Region.{Region}
use Rattle.query_text.proofs.Lookups.{other_names}
use Rattle.query_text.proofs.region.read_new_name.Goals as goal

pub returns-in-None-clause-new : goal.returns-in-None-clause-new
returns-in-None-clause-new c =
    λ k d below same. other_names (λ (x : Region). x.name) c.in_ok-text.text.now c.args.before.now (sym c.in-None.ensures.number) k d below (same ∙ c.from_bytes.ensures.bytes ∙ ap name_of c.as_bytes.ensures.value)
