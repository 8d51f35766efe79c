use Rattle.std.proofs.Common.{◌≡◌}
use Rattle.reader.proofs.Refusing.{Clear}
use Rattle.reader.proofs.check.check_text.Given as goal

abbrev pub invariant-loop-line : goal.invariant-loop-line
invariant-loop-line l = record {
  can : goal.iterator-loop-line.can_next l.line-iterator;
  finite : goal.iterator-loop-line.is_finite l.line-iterator;
  same : l.line-iterator.text.now ≡ l.text;
  clear : Clear l.text l.line-iterator.given;
}
