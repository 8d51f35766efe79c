use Rattle.std.proofs.Common.{refl, arith}
use Rattle.operands.specs.Changes.{held}
use Rattle.operands.proofs.Changing.{copied_made, group_read}
use Rattle.operands.proofs.stack.Stack.copy_group.Goals as goal

pub returns : goal.returns
returns g c =
    let size = g.C.Cell.size in
    let s = c.args.self.now in
    let k = c.in_ok-count.count in
    let group = group_read size c.args.slots k c.top_group.result (held s) c.cells.result.now c.cells.ensures.stack c.top_group.ensures c.in_ok-count.ensures.ok_part in
    let room = c.in_ok-check_room.ensures.room in
    let made = copied_made size s.cells.now s.used s.within c.args.slots k group c.copy_within.new.self _ (omega arith) room.0 room.1 c.copy_within.ensures.after in
    (made.0, (made.1.0, (refl, made.1.1)))
