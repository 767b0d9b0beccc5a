use Rattle.std.proofs.Common.{◌≡◌, ◌++◌, take, drop}
use Rattle.array_text.specs.Words.{first_word, after_word}
use Rattle.array_text.proofs.bytes.split_word.Given as goal

abbrev pub invariant-loop-i : goal.invariant-loop-i
invariant-loop-i l =
    record {
      word : take l.i l.bytes ++ first_word (drop l.i l.bytes) ≡ first_word l.bytes;
      after : after_word (drop l.i l.bytes) ≡ after_word l.bytes;
    }
