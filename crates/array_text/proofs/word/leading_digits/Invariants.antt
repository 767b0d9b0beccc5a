use Rattle.std.proofs.Common.{◌≡◌, ◌+◌, ◌≤◌, ◌<◌, ◌^◌, length, drop}
use Rattle.array_text.specs.Numbers.{digits_from}
use Rattle.array_text.specs.Words.{first_word, after_word}
use Rattle.array_text.proofs.word.leading_digits.Given as goal

abbrev pub invariant-loop-i : goal.invariant-loop-i
invariant-loop-i l =
    record {
      digits : digits_from l.value (first_word (drop l.i l.bytes)) ≡ digits_from 0 (first_word l.bytes);
      count : l.i + length (first_word (drop l.i l.bytes)) ≡ length (first_word l.bytes);
      after : after_word (drop l.i l.bytes) ≡ after_word l.bytes;
      few : l.i ≤ 10;
      value : l.value < 10 ^ l.i;
    }
