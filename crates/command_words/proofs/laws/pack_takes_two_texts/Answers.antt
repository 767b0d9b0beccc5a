use Rattle.std.proofs.Common.{refl, codes}
use Rattle.command_words.specs.Asked.{pack}
use Rattle.command_words.specs.Parameters.{text}
use Rattle.command_words.specs.Pack.{pack_by, pack_of, pack_parameters}
use Rattle.command_words.proofs.Finding.{have_defaults, text-found}
use Rattle.command_words.proofs.Sound.{is_sound, made-given}
use Rattle.command_words.proofs.laws.pack_takes_two_texts.Goals as goal

pub returns : goal.returns
returns c =
    let ps = pack_parameters in
    let d = have_defaults ps 1 refl in
    made-given (codes "pack") ps pack_by pack_of (is_sound ps refl) (λ given i. pack (text-found ps given (text (codes "text")) d.0 i) (text-found ps given (text (codes "array")) d.1.0 i))
