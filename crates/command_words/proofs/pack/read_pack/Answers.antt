use Rattle.std.proofs.Common.{◌∙◌, sym, Some}
use Rattle.command_words.specs.Asked.{pack}
use Rattle.command_words.specs.Pack.{pack_app, pack_by}
use Rattle.command_words.specs.Words.{bytes_of_words}
use Rattle.command_words.proofs.Reading.{made_of}
use Rattle.command_words.proofs.pack.read_pack.Goals as goal

pub returns-clause-read : goal.returns-clause-read
returns-clause-read c =
    made_of pack_by pack_app _ (bytes_of_words c.args.words.now) _ c.in_ok-rules.ensures.rules c.in_ok-matches.ensures.read
    ∙ (λ i. Some (pack (sym c.text-file.ensures i) (sym c.text-array.ensures i)))
