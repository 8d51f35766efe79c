use Rattle.std.proofs.Common.{sym, refl, ◌∙◌, arith}
use Rattle.operands.proofs.Stacking.{popped}
use Rattle.operands.proofs.stack.Stack.pop.Goals as goal

pub returns : goal.returns
returns g c =
    let s = c.args.self.now in
    let top = popped s.cells.now s.used _ c.in_ok-top.top s.within (sym c.peek.ensures ∙ c.in_ok-top.was) (omega arith) in
    (top.1, (refl, omega (arith, top.0)))
