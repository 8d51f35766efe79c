use Rattle.std.proofs.Common.{◌-◌, refl, arith}
use Rattle.operands.specs.Changes.{held}
use Rattle.operands.proofs.Changing.{group_read, slots_below, taken_made, taken_refused}
use Rattle.operands.proofs.stack.Stack.take_group.Goals as goal

pub returns-then-slots_of-gt-MOST_SLOTS : goal.returns-then-slots_of-gt-MOST_SLOTS
returns-then-slots_of-gt-MOST_SLOTS g c =
    let size = g.C.Cell.size in
    let s = c.args.self.now in
    let k = c.in_ok-count.count in
    let group = group_read size c.args.slots k c.top_group.result (held s) c.cells.result.now c.cells.ensures.stack c.top_group.ensures c.in_ok-count.ensures.ok_part in
    let below = slots_below size s.cells.now c.cells-2.result.now s.used (s.used - k) (omega arith) c.cells-2.ensures.list in
    ((refl, refl), taken_refused size s.cells.now s.used s.within c.args.slots k group (omega (arith, below, c.slots_of.ensures.stack, c.if-slots_of-gt-MOST_SLOTS.true)))

pub returns : goal.returns
returns g c =
    let size = g.C.Cell.size in
    let s = c.args.self.now in
    let k = c.in_ok-count.count in
    let group = group_read size c.args.slots k c.top_group.result (held s) c.cells.result.now c.cells.ensures.stack c.top_group.ensures c.in_ok-count.ensures.ok_part in
    let below = slots_below size s.cells.now c.cells-2.result.now s.used (s.used - k) (omega arith) c.cells-2.ensures.list in
    let made = taken_made size s.cells.now s.used s.within c.args.slots k group _ (omega arith) (omega (arith, below, c.slots_of.ensures.stack, c.if-slots_of-gt-MOST_SLOTS.false)) in
    (made.0, (made.1.0, (refl, made.1.1)))
