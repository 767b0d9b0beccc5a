use Rattle.std.proofs.Common.{refl, codes}
use Rattle.command_words.specs.Asked.{info}
use Rattle.command_words.specs.Parameters.{text}
use Rattle.command_words.specs.Info.{info_by, info_of, info_parameters}
use Rattle.command_words.proofs.Finding.{have_defaults, text-found}
use Rattle.command_words.proofs.Sound.{is_sound, made-given}
use Rattle.command_words.proofs.laws.info_takes_one_text.Goals as goal

pub returns : goal.returns
returns c =
    let ps = info_parameters in
    let d = have_defaults ps 1 refl in
    made-given (codes "info") ps info_by info_of (is_sound ps refl) (λ given i. info (text-found ps given (text (codes "array")) d.0 i))
