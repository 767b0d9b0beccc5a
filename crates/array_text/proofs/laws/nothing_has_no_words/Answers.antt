use Rattle.array_text.proofs.FirstWords.{words-none}
use Rattle.array_text.proofs.laws.nothing_has_no_words.Goals as goal

pub returns : goal.returns
returns c = words-none
