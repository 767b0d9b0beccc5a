use Rattle.command_words.proofs.Sound.{texts-given}
use Rattle.command_words.proofs.laws.words_give_to_parameters.Goals as goal

pub returns : goal.returns
returns c = texts-given
