use Rattle.array_text.proofs.WordLaws.{words-up_to_the_end}
use Rattle.array_text.proofs.laws.a_word_goes_up_to_the_end.Goals as goal

pub returns : goal.returns
returns c = words-up_to_the_end
