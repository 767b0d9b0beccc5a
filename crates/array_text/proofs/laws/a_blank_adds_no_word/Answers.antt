use Rattle.array_text.proofs.FirstWords.{words-blank}
use Rattle.array_text.proofs.laws.a_blank_adds_no_word.Goals as goal

pub returns : goal.returns
returns c = words-blank
