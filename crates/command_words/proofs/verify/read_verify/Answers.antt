use Rattle.std.proofs.Common.{◌∙◌, sym, Some}
use Rattle.command_words.specs.Asked.{verify}
use Rattle.command_words.specs.Verify.{verify_app, verify_by}
use Rattle.command_words.specs.Words.{bytes_of_words}
use Rattle.command_words.proofs.Reading.{made_of}
use Rattle.command_words.proofs.verify.read_verify.Goals as goal

pub returns-clause-read : goal.returns-clause-read
returns-clause-read c =
    made_of verify_by verify_app _ (bytes_of_words c.args.words.now) _ c.in_ok-rules.ensures.rules c.in_ok-matches.ensures.read
    ∙ (λ i. Some (verify (sym c.text-array.ensures i) (sym c.text-query.ensures i)))
