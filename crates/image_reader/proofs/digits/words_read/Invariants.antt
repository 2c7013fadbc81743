use Rattle.std.proofs.Common.{◌≡◌, ◌+◌, ◌/◌, ◌%◌, ◌≤◌, length, vec_len, vec_capacity}
use Rattle.image_reader.specs.Digits.{words_told}
use Rattle.image_reader.proofs.DigitLemmas.{behind}
use Rattle.image_reader.proofs.digits.words_read.Given as goal

abbrev pub invariant-words : goal.invariant-words
invariant-words l = record {
  whole : length l.rest % 16 ≡ 0;
  room : vec_len l.words + length l.rest / 16 ≤ vec_capacity l.words;
  read : words_told (length l.digits / 16) l.digits ≡ behind l.words.items (words_told (length l.rest / 16) l.rest);
}

abbrev pub decreases-words : goal.decreases-words
decreases-words l = length l.rest
