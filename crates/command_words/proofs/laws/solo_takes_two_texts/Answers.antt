use Rattle.std.proofs.Common.{refl, codes}
use Rattle.command_words.specs.Asked.{solo}
use Rattle.command_words.specs.Parameters.{text}
use Rattle.command_words.specs.Solo.{solo_by, solo_of, solo_parameters}
use Rattle.command_words.proofs.Finding.{have_defaults, text-found}
use Rattle.command_words.proofs.Sound.{is_sound, made-given}
use Rattle.command_words.proofs.laws.solo_takes_two_texts.Goals as goal

pub returns : goal.returns
returns c =
    let ps = solo_parameters in
    let d = have_defaults ps 1 refl in
    made-given (codes "solo") ps solo_by solo_of (is_sound ps refl) (λ given i. solo (text-found ps given (text (codes "array")) d.0 i) (text-found ps given (text (codes "query")) d.1.0 i))
