use Rattle.array_text.proofs.PlainTexts.{plain_text-is}
use Rattle.array_text.proofs.laws.plain_texts_are_read_back.Goals as goal

pub returns : goal.returns
returns c = plain_text-is
