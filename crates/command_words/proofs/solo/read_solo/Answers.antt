use Rattle.std.proofs.Common.{◌∙◌, sym, Some}
use Rattle.command_words.specs.Asked.{solo}
use Rattle.command_words.specs.Solo.{solo_app, solo_by}
use Rattle.command_words.specs.Words.{bytes_of_words}
use Rattle.command_words.proofs.Reading.{made_of}
use Rattle.command_words.proofs.solo.read_solo.Goals as goal

pub returns-clause-read : goal.returns-clause-read
returns-clause-read c =
    made_of solo_by solo_app _ (bytes_of_words c.args.words.now) _ c.in_ok-rules.ensures.rules c.in_ok-matches.ensures.read
    ∙ (λ i. Some (solo (sym c.text-array.ensures i) (sym c.text-query.ensures i)))
