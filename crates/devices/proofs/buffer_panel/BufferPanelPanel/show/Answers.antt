use Rattle.std.proofs.Common.{◌≡◌, ℕ, ◌+◌, ◌-◌, ◌≤◌, List, ◌++◌, length, take, drop, sym, refl, ap, ◌∙◌, subst, arith, length-drop, length-take-le}
use Rattle.devices.specs.Buffers.{appended, capacity}
use Rattle.devices.specs.Costs.{cost}
use Rattle.devices.proofs.Appending.{part-appended, take-appended, length-appended}
use Rattle.devices.proofs.buffer_panel.BufferPanelPanel.show.Given.{Over}
use Rattle.devices.proofs.buffer_panel.BufferPanelPanel.show.Goals as goal
use Rattle.devices.proofs.buffer_panel.BufferPanelPanel.show.Goals.{In_ok-written}

module _ (g : Over) (c : In_ok-written g) where
  abbrev line : List ℕ
  line = g.F.Format.line c.args.text.now

  -- the buffer with the space put back
  abbrev after : List ℕ
  after =
      let s = c.args.self.now in
      take s.used s.buffer.now ++ (c.write.new.space ++ drop (c.capacity-end.result - s.used) (drop s.used s.buffer.now))

  fits : c.args.self.now.used + length line ≤ capacity c.args.self.now.buffer.now
  fits =
      let s = c.args.self.now in
      let w = c.in_ok-written.ensures.writes in
      let rest = drop s.used s.buffer.now in
      omega (arith, s.within, c.capacity-end.ensures, w.0, w.1, length-drop s.used s.buffer.now, length-take-le (c.capacity-end.result - s.used) rest)

  grown : after ≡ appended c.args.self.now.buffer.now c.args.self.now.used line
  grown =
      let s = c.args.self.now in
      let w = c.in_ok-written.ensures.writes in
      let k = c.capacity-end.result - s.used in
      let rest = drop s.used s.buffer.now in
      ap (λ l. take s.used s.buffer.now ++ (l ++ drop k rest)) (w.2 ∙ ap (λ n. line ++ drop n (take k rest)) w.0)
      ∙ part-appended s.buffer.now s.used line k (omega (arith, s.within, c.capacity-end.ensures)) (omega (arith, s.within, c.capacity-end.ensures, fits))

  long : length after ≡ length c.args.self.now.buffer.now
  long = ap length grown ∙ length-appended _ _ line (omega (arith, fits))

  written : take (c.args.self.now.used + c.in_ok-written.written) after ≡ take c.args.self.now.used c.args.self.now.buffer.now ++ line
  written =
      (λ i. take (c.args.self.now.used + c.in_ok-written.ensures.writes.0 i) (grown i)) ∙ take-appended _ _ line (omega (arith, fits))

  units : capacity after - (c.args.self.now.used + c.in_ok-written.written) ≡ capacity c.args.self.now.buffer.now - c.args.self.now.used - cost g.F.Format.rate c.args.text.now
  units = omega (arith, long, c.in_ok-written.ensures.writes.0, c.in_ok-written.ensures.charges)

pub invariant_of-self-2 : goal.invariant_of-self-2
invariant_of-self-2 g c = record {
  within = omega (arith, long g c, fits g c, c.in_ok-written.ensures.writes.0);
  whole = subst (λ w. g.F.Format.rewritten w ≡ w) (sym (written g c)) (c.in_ok-written.ensures.adds _ c.args.self.now.whole).1;
}

pub returns-clause-shows : goal.returns-clause-shows
returns-clause-shows g c =
    let at = (goal.at.returns-clause-shows g c).In_ok-written in
    let shown = ap g.F.Format.shown (written g at) ∙ (c.in_ok-written.ensures.adds _ c.args.self.now.whole).0 in (
      omega (arith, fits g at, c.in_ok-written.ensures.charges),
      λ i. record { shown = shown i; units = units g at i; rate = g.F.Format.rate },
    )

pub returns-clause-writes : goal.returns-clause-writes
returns-clause-writes g c =
    let at = (goal.at.returns-clause-writes g c).In_ok-written in
    record {
      buffer = grown g at;
      used = ap (λ n. c.args.self.now.used + n) c.in_ok-written.ensures.writes.0;
      lender = refl;
    }
