use Rattle.std.proofs.Common.{◌≡◌, ◌∙◌, ap, sym, arith, length, drop}
use Rattle.array_text.specs.Words.{words, words_at}
use Rattle.array_text.proofs.FirstWords.{take-rest, words-skip, words-at, words-end}
use Rattle.array_text.proofs.bytes.skip_blanks.Goals as goal

pub returns-then-not-is_blank-clause-words : goal.returns-then-not-is_blank-clause-words
returns-then-not-is_blank-clause-words c =
    let bytes = c.args.bytes.now in
    let i = c.loop-i.i in
    sym c.loop-i.invariant ∙ words-at bytes i c.loop-i-test.true (sym c.is_blank.ensures ∙ c.if-not-is_blank.true) ∙ ap words_at (sym (take-rest bytes i))

pub loop-i-preserved : goal.loop-i-preserved
loop-i-preserved c =
    sym (words-skip c.args.bytes.now c.loop-i.i c.loop-i-test.true (sym c.is_blank.ensures ∙ c.if-not-is_blank.false)) ∙ c.loop-i.invariant

pub returns-clause-words : goal.returns-clause-words
returns-clause-words c =
    let bytes = c.args.bytes.now in
    let at_end : c.loop-i.i ≡ length bytes = omega (arith, c.loop-i-test.false, c.loop-i.auto.i-end) in
    sym c.loop-i.invariant ∙ ap (λ k. words (drop k bytes)) at_end ∙ words-end bytes ∙ ap words_at (sym (take-rest bytes (length bytes)))
