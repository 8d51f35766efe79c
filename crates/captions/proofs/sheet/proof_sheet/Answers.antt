use Rattle.std.proofs.Common.{◌≡◌, ◌-◌, ◌+◌, None, length, Some, Ok, ap, ◌∙◌, subst, arith}
use Rattle.std.proofs.lemmas.Bool.{cond-true, cond-false}
use Rattle.captions.proofs.Passing.{WordsShown, all_then, full_then, line_full, line_more, line_read, none_read, none_then, passed_then, shown_then_one}
use Rattle.reader.specs.Lines.{IsLine}
use Rattle.reader.specs.Tokens.{GivesWord}
use Rattle.reader.specs.Words.{words_from}
use Rattle.captions.proofs.sheet.proof_sheet.Given.{Over}
use Rattle.captions.proofs.sheet.proof_sheet.Goals as goal
use Rattle.captions.proofs.sheet.proof_sheet.Goals.{In-Some, In_ok-token, After-into_iter-token-iterator}

-- the line that was given, of the text that was passed
this_line : (g : Over) (c : In-Some g) → IsLine c.args.text.now c.loop-line.line-iterator.given c.in-Some.line
this_line g c = subst (λ t. IsLine t c.loop-line.line-iterator.given c.in-Some.line) c.loop-line.invariant.same c.in-Some.ensures.steps.0.0

-- the words are those of the line
these_words : (g : Over) (c : After-into_iter-token-iterator g) → c.into_iter-token-iterator.result.line.bytes.now ≡ c.in-Some.line.bytes.now
these_words g c = ap (λ w. w.line.bytes.now) c.into_iter-token-iterator.ensures.into_iter_gives ∙ ap (λ l. l.bytes.now) c.in_ok-token-items.ensures.1.0

this_word : (g : Over) (c : In_ok-token g) → GivesWord c.loop-token.token-iterator (Some (Ok c.in_ok-token.field-0)) c.next-in-loop-token.new.self
this_word g c = subst (λ r. GivesWord c.loop-token.token-iterator (Some r) c.next-in-loop-token.new.self) c.in_ok-token.was c.in-Some-token.ensures.steps

pub returns-in_err-token-items : goal.returns-in_err-token-items
returns-in_err-token-items g c =
    let is = this_line g (goal.at.returns-in_err-token-items g c).In-Some in
    absurd (line_read c.args.text.now c.in_ok-check_text.ensures _ _ is (cond-false _ _ _ c.in_err-token-items.ensures.0))

pub loop-token-init : goal.loop-token-init
loop-token-init g c =
    let front = ap (λ w. w.at) c.into_iter-token-iterator.ensures.into_iter_gives ∙ c.in_ok-token-items.ensures.1.1 in
    record {
      can = tt;
      finite = tt;
      before = none_read _ c.into_iter-token-iterator.result.line.bytes.now _ (c.loop-line.shown - c.loop-line.shown) (λ _. c.into_iter-token-iterator.result.line.bytes.now) front (omega arith);
      counts = omega arith;
    }

pub returns-in_err-token : goal.returns-in_err-token
returns-in_err-token g c =
    let is = this_line g (goal.at.returns-in_err-token g c).In-Some in
    let bytes = these_words g (goal.at.returns-in_err-token g c).After-into_iter-token-iterator in
    let gave = subst (λ r. GivesWord c.loop-token.token-iterator (Some r) c.next-in-loop-token.new.self) c.in_err-token.was c.in-Some-token.ensures.steps in
    let none = none_then _ _ _ _ _ c.loop-token.invariant.before _ _ gave in
    absurd (line_read c.args.text.now c.in_ok-check_text.ensures _ _ is (cond-true _ _ _ c.in_ok-token-items.ensures.0 ∙ subst (λ l. words_from l 0 ≡ None) bytes none))

pub loop-token-preserved-in-Ok : goal.loop-token-preserved-in-Ok
loop-token-preserved-in-Ok g c =
    let shows = c.in-Ok.ensures in
    let one = shown_then_one _ _ _ _ _ c.loop-token.invariant.before _ _ (this_word g (goal.at.loop-token-preserved-in-Ok g c).In_ok-token) _ (c.in-Some-caption.ensures c.in_ok-token.field-0.place) shows.0 _ shows.1 in
    let count : c.loop-token.shown - c.loop-line.shown + 1 ≡ c.loop-token.shown + 1 - c.loop-line.shown = omega (arith, c.loop-token.invariant.counts) in
    record {
      can = tt;
      finite = tt;
      before = subst (WordsShown _ _ _ _) count one;
      counts = omega (arith, c.loop-token.invariant.counts);
    }

pub loop-token-preserved : goal.loop-token-preserved
loop-token-preserved g c = record {
  can = tt;
  finite = tt;
  before = passed_then _ _ _ _ _ c.loop-token.invariant.before _ _ (this_word g (goal.at.loop-token-preserved g c).In_ok-token) (c.in_default.ensures c.in_ok-token.field-0.place);
  counts = c.loop-token.invariant.counts;
}

pub returns-in-Err : goal.returns-in-Err
returns-in-Err g c =
    let refused = c.in-Err.ensures in
    let is = this_line g (goal.at.returns-in-Err g c).In-Some in
    let bytes = these_words g (goal.at.returns-in-Err g c).After-into_iter-token-iterator in
    let word = this_word g (goal.at.returns-in-Err g c).In_ok-token in
    line_full c.args.text.now c.in_ok-check_text.ensures _ _ is _ _ _ _ c.loop-line.invariant.before c.in_ok-token-items.ensures.0 _ c.loop-token.invariant.counts
    (λ ws all. full_then _ _ _ _ _ c.loop-token.invariant.before _ _ word _ (c.in-Some-caption.ensures c.in_ok-token.field-0.place) refused.0 _ refused.1 ws (ap (λ l. words_from l 0) bytes ∙ all))

pub loop-line-preserved : goal.loop-line-preserved
loop-line-preserved g c =
    let is = this_line g (goal.at.loop-line-preserved g c).In-Some in
    let bytes = these_words g (goal.at.loop-line-preserved g c).After-into_iter-token-iterator in
    let inv = c.loop-token.invariant in
    record {
      can = tt;
      finite = tt;
      same = ap (λ t. t.now) c.in-Some.ensures.steps.1 ∙ c.loop-line.invariant.same;
      before = line_more c.args.text.now c.in_ok-check_text.ensures _ _ is _ _ _ _ c.loop-line.invariant.before c.in_ok-token-items.ensures.0 _ inv.counts
          _ c.in-Some.ensures.steps.0.1 (omega (arith, inv.before.few, inv.before.within, ap length bytes))
          (λ ws all. all_then _ _ _ _ _ inv.before _ c.in-None-token.ensures.steps ws (ap (λ l. words_from l 0) bytes ∙ all));
    }
