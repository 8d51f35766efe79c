use Rattle.std.proofs.Common.{◌-◌, take, drop, refl, ap, arith, length-drop, rules}
use Rattle.std.proofs.lemmas.List.{length-take-le}
use Rattle.reader.specs.Bytes.{is_inline}
use Rattle.reader.specs.Lines.{IsLine}
use Rattle.reader.proofs.Splitting.{all_given, few_given, next_within, next_bytes, next_left, next_placed}
use Rattle.reader.proofs.lines.LinesIterator.next.Goals as goal

pub returns-then-start-text-clause-steps : goal.returns-then-start-text-clause-steps
returns-then-start-text-clause-steps c =
    let s = c.args.self.now in
    ((all_given s c.if-start-text.true, refl), refl)

pub overflow_add-self-2 : goal.overflow_add-self-2
overflow_add-self-2 c =
    let s = c.args.self.now in
    let few = few_given s in
    search rules

pub overflow_add-self : goal.overflow_add-self
overflow_add-self c =
    let s = c.args.self.now in
    let short = s.short in
    let within = c.run_end-end.ensures.within (omega arith) in
    search rules

pub invariant_of-self : goal.invariant_of-self
invariant_of-self c =
    let s = c.args.self.now in
    let end = c.run_end-end.result in
    let ends = c.run_end-end.ensures.value is_inline (λ b r k. search rules) in
    let more = c.if-start-text.false in
    let placed = next_placed s more end ends (c.run_end-end.ensures.within (omega arith)) in
    let within = next_within s more end ends in
    record {
      short = s.short;
      placed = placed;
      counted = omega arith;
      left = next_left s more end ends;
    }

pub returns-clause-steps : goal.returns-clause-steps
returns-clause-steps c =
    let s = c.args.self.now in
    let end = c.run_end-end.result in
    let ends = c.run_end-end.ensures.value is_inline (λ b r k. search rules) in
    let more = c.if-start-text.false in
    let inside = c.run_end-end.ensures.within (omega arith) in
    let long = length-take-le (end - s.at) (drop s.at s.text.now) (omega (arith, length-drop s.at s.text.now)) in
    let line : IsLine s.text.now s.given _ = record {
      within = next_within s more end ends;
      number = refl;
      place = s.placed;
      bytes = next_bytes s more end ends;
      inside = omega (arith, long);
      part = ap (λ k. take k (drop s.at s.text.now)) long;
    } in
    ((line, refl), refl)
