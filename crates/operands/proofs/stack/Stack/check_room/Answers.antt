use Rattle.std.proofs.Common.{arith}
use Rattle.operands.specs.Changes.{held}
use Rattle.operands.proofs.Stacking.{few_slots, length-stacked-le}
use Rattle.operands.proofs.stack.Stack.check_room.Goals as goal

pub overflow_add-slots : goal.overflow_add-slots
overflow_add-slots g c =
    let s = c.args.self.now in
    let few = few_slots g.C.Cell.size g.met.C.Cell.bounded (held s) in
    record { fits = omega (arith, c.slots.ensures, length-stacked-le s.cells.now s.used s.within, c.ranges.slots.fits) }
