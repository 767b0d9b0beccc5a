use Rattle.command_words.proofs.SearchLaw.{search_in-given}
use Rattle.command_words.proofs.laws.search_takes_two_texts_and_options.Goals as goal

pub returns : goal.returns
returns c = search_in-given
