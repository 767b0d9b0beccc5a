use Rattle.std.proofs.Common.{refl, codes}
use Rattle.command_words.specs.Asked.{verify}
use Rattle.command_words.specs.Parameters.{text}
use Rattle.command_words.specs.Verify.{verify_by, verify_of, verify_parameters}
use Rattle.command_words.proofs.Finding.{have_defaults, text-found}
use Rattle.command_words.proofs.Sound.{is_sound, made-given}
use Rattle.command_words.proofs.laws.verify_takes_two_texts.Goals as goal

pub returns : goal.returns
returns c =
    let ps = verify_parameters in
    let d = have_defaults ps 1 refl in
    made-given (codes "verify") ps verify_by verify_of (is_sound ps refl) (λ given i. verify (text-found ps given (text (codes "array")) d.0 i) (text-found ps given (text (codes "query")) d.1.0 i))
