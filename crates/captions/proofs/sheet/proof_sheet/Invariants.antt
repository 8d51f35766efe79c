use Rattle.std.proofs.Common.{◌≡◌, ◌-◌, ◌≤◌}
use Rattle.captions.proofs.Passing.{LinesShown, WordsShown}
use Rattle.captions.proofs.sheet.proof_sheet.Given as goal

-- the captions of the lines that were given were shown and counted
abbrev pub invariant-loop-line : goal.invariant-loop-line
invariant-loop-line g l = record {
  can : (goal.iterator-loop-line g).can_next l.line-iterator;
  finite : (goal.iterator-loop-line g).is_finite l.line-iterator;
  same : l.line-iterator.text.now ≡ l.text;
  before : LinesShown (g.P.Panel.state l.initial.panel) l.text l.line-iterator.given (g.P.Panel.state l.panel) l.shown;
}

-- and so were those of the words that were given of the next line
abbrev pub invariant-loop-token : goal.invariant-loop-token
invariant-loop-token g l = record {
  can : (goal.iterator-loop-token g).can_next l.token-iterator;
  finite : (goal.iterator-loop-token g).is_finite l.token-iterator;
  before : WordsShown (g.P.Panel.state l.initial.panel) l.initial.token-iterator.line.bytes.now l.token-iterator (g.P.Panel.state l.panel) (l.shown - l.initial.shown);
  counts : l.initial.shown ≤ l.shown;
}
