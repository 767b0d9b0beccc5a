use Rattle.std.proofs.Common.{ℕ, Ok, Err}
use Rattle.command_words.proofs.Reading.{number_parsed}
use Rattle.command_words.proofs.found.number_in.Goals as goal

pub returns-in-Ok : goal.returns-in-Ok
returns-in-Ok c = number_parsed {E = ℕ} c.args.text.now (Ok c.in-Ok.number) c.in-Ok.ensures.value.0

pub returns-in-Err : goal.returns-in-Err
returns-in-Err c = number_parsed c.args.text.now (Err c.in-Err.field-0) c.in-Err.ensures.value.0
