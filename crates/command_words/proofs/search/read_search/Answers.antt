use Rattle.std.proofs.Common.{◌∙◌, sym, Some}
use Rattle.command_words.specs.Asked.{search}
use Rattle.command_words.specs.Search.{search_app, search_by}
use Rattle.command_words.specs.Words.{bytes_of_words}
use Rattle.command_words.proofs.Reading.{made_of}
use Rattle.command_words.proofs.SearchLaw.{search_in-within, words-utf8}
use Rattle.command_words.proofs.search.read_search.Goals as goal

pub returns-clause-read : goal.returns-clause-read
returns-clause-read c =
    made_of search_by search_app _ (bytes_of_words c.args.words.now) _ c.in_ok-rules.ensures.rules c.in_ok-matches.ensures.read
    ∙ (λ i. Some (search (sym c.text-array.ensures i) (sym c.text-query.ensures i) (sym c.number-solvers.ensures i)
    (sym c.number-validators.ensures i) (sym c.number-frames.ensures i) (sym c.number-strips.ensures i) (sym c.flag-summary.ensures i)))

pub returns-clause-limits : goal.returns-clause-limits
returns-clause-limits c = search_in-within (bytes_of_words c.args.words.now) _ (words-utf8 c.args.words.now) (returns-clause-read c)
