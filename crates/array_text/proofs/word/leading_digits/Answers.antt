use Rattle.std.proofs.Common.{◌≡◌, ◌+◌, ◌*◌, ◌<◌, ◌∙◌, ap, sym, arith, length, drop, false, slice_index_or}
use Rattle.array_text.specs.Numbers.{digits_from}
use Rattle.array_text.specs.Words.{is_blank, first_word}
use Rattle.array_text.proofs.Digits as digits
use Rattle.array_text.proofs.FirstWords as first_words
use Rattle.array_text.proofs.word.leading_digits.Goals as goal

pub returns-then-is_blank-clause-digits : goal.returns-then-is_blank-clause-digits
returns-then-is_blank-clause-digits c =
    sym c.loop-i.invariant.digits
    ∙ digits.digits_from-end c.args.bytes.now c.loop-i.i c.loop-i.value c.loop-i-test.true (sym c.is_blank.ensures ∙ c.if-is_blank.true)

pub returns-then-i-eq-MOST_DIGITS-clause-digits : goal.returns-then-i-eq-MOST_DIGITS-clause-digits
returns-then-i-eq-MOST_DIGITS-clause-digits c =
    let bytes = c.args.bytes.now in
    let more = ap length (first_words.first_word-more bytes c.loop-i.i c.loop-i-test.true (sym c.is_blank.ensures ∙ c.if-is_blank.false)) in
    digits.number_written-long (first_word bytes) (omega (arith, more, c.loop-i.invariant.count, c.if-i-eq-MOST_DIGITS.true))

pub returns-in_default-clause-digits : goal.returns-in_default-clause-digits
returns-in_default-clause-digits c =
    let bytes = c.args.bytes.now in
    let no_blank = sym c.is_blank.ensures ∙ c.if-is_blank.false in
    let other = digits.digits_from-other bytes c.loop-i.i c.loop-i.value c.loop-i-test.true no_blank (sym c.digit.ensures.digit ∙ c.in_default.is) in
    digits.number_written-other (first_word bytes) (sym c.loop-i.invariant.digits ∙ other)

pub loop-i-preserved : goal.loop-i-preserved
loop-i-preserved c =
    let bytes = c.args.bytes.now in
    let i = c.loop-i.i in
    let inside = c.loop-i-test.true in
    let no_blank : is_blank (slice_index_or bytes i 0) ≡ false = sym c.is_blank.ensures ∙ c.if-is_blank.false in
    let d = c.in-Some.d in
    let v = c.loop-i.value in
    let invariant = c.loop-i.invariant in
    let more = ap length (first_words.first_word-more bytes i inside no_blank) in
    let few : d < 10 = c.in-Some.ensures.few in
    record {
      digits = ap (λ n. digits_from (10 * v + n) (first_word (drop (i + 1) bytes))) c.from.ensures
          ∙ sym (digits.digits_from-more bytes i v d inside no_blank (sym c.digit.ensures.digit ∙ c.in-Some.is)) ∙ invariant.digits;
      count = omega (arith, more, invariant.count);
      after = sym (first_words.after_word-more bytes i inside no_blank) ∙ invariant.after;
      few = omega (arith, invariant.few, c.if-i-eq-MOST_DIGITS.false);
      value = omega (arith, digits.digits_fit v d i invariant.value few, c.from.ensures);
    }

pub returns-clause-digits : goal.returns-clause-digits
returns-clause-digits c =
    let bytes = c.args.bytes.now in
    let v = c.loop-i.value in
    let at_end : c.loop-i.i ≡ length bytes = omega (arith, c.loop-i-test.false, c.loop-i.auto.i-end) in
    sym c.loop-i.invariant.digits ∙ ap (λ k. digits_from v (first_word (drop k bytes))) at_end ∙ digits.digits_from-none bytes v
