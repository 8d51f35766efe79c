use Rattle.std.proofs.Common.{rules, ◌≡◌, ◌∙◌, sym}
use Rattle.operands.specs.Stacks.{slots_of}
use Rattle.operands.proofs.Stacking.{slots-reverse}
use Rattle.operands.proofs.stack.slots_of.Goals as goal

pub returns-clause-stack : goal.returns-clause-stack
returns-clause-stack g c =
    let size = g.C.Cell.size in
    let list : c.sum.result ≡ slots_of size c.args.cells.now = search rules in
    list ∙ sym (slots-reverse size c.args.cells.now)
