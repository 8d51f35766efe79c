use Rattle.std.proofs.Common.{sym, ◌∙◌}
use Rattle.operands.proofs.Stacking.{stacked-last}
use Rattle.operands.proofs.stack.pop.Goals as goal

pub returns : goal.returns
returns g c =
    stacked-last c.args.cells.now c.args.used c.in_ok-top.below.now c.in_ok-top.top.now (sym c.cells_in_use.ensures.list ∙ c.in_ok-top.ensures.cases.0)
