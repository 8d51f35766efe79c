use Rattle.std.proofs.Common.{◌≡◌, None}
use Rattle.reader.specs.Words.{words_from}
use Rattle.reader.proofs.check.check_words.Given as goal

abbrev pub invariant-loop-token : goal.invariant-loop-token
invariant-loop-token l = record {
  can : goal.iterator-loop-token.can_next l.token-iterator;
  finite : goal.iterator-loop-token.is_finite l.token-iterator;
  left : words_from l.token-iterator.line.bytes.now l.token-iterator.at ≡ None → words_from l.line.bytes.now 0 ≡ None;
  all : words_from l.line.bytes.now 0 ≡ None → words_from l.token-iterator.line.bytes.now l.token-iterator.at ≡ None;
  same : l.token-iterator.line ≡ l.line;
}
