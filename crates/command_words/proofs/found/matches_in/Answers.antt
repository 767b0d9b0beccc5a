-- What `clap` says of a parse by rules of which it gives the matches and the faults.
use Rattle.std.proofs.Common.{◌≡◌, ◌∙◌}
use Rattle.clap.specs.Words.{app_of}
use Rattle.command_words.specs.Words.{bytes_of_words}
use Rattle.command_words.specs.declared.fault.WordsFault.TheVariants.{NoMemory}
use Rattle.command_words.proofs.Reading.{rows_in-ok, rows_in-none}
use Rattle.command_words.proofs.found.matches_in.Goals as goal

pub returns-in-Ok-clause-read : goal.returns-in-Ok-clause-read
returns-in-Ok-clause-read c =
    rows_in-ok (app_of c.args.command) (bytes_of_words c.args.words.now) c.in-Ok.matches c.requires (c.in-Ok.ensures.kinds c.requires) c.in-Ok.ensures.matches

pub returns-in-Err-clause-usage : goal.returns-in-Err-clause-usage
returns-in-Err-clause-usage c usage =
    rows_in-none (app_of c.args.command) (bytes_of_words c.args.words.now) c.in-Err.error (c.in-Err.ensures.kinds c.requires)
    (λ memory. let told : c.fault_from_kind.result ≡ NoMemory = c.fault_from_kind.ensures.1 (c.kind.ensures ∙ memory) in cc)
