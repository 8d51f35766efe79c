use Rattle.std.proofs.Common.{length, refl, ap, ◌∙◌, arith}
use Rattle.std.proofs.lemmas.List.{length-take-le}
use Rattle.operands.proofs.Changing.{cell_read, swapped_made}
use Rattle.operands.proofs.stack.Stack.swap.Goals as goal

pub returns : goal.returns
returns g c =
    let size = g.C.Cell.size in
    let s = c.args.self.now in
    let cells = s.cells.now in
    let r = c.cells.result.now in
    let list = c.cells.ensures.list in
    let two = c.in-len2-up.len_at_least in
    let long = ap length list ∙ length-take-le s.used cells s.within in
    let top = cell_read cells r s.used 1 c.top-item.result s.within list (omega arith) (omega arith) c.top-item.is in
    let second = cell_read cells r s.used 2 c.second-item.result s.within list (omega arith) two c.second-item.is in
    let sixteen = c.in_ok-check_room.ensures.room.1 in
    let made = swapped_made size cells s.used s.within c.top-item.result c.second-item.result (omega arith) top second (omega arith) (omega arith) (omega arith) c.swap.new.self _ _ (omega arith) (omega arith) c.swap.ensures.after in
    (made.0, (made.1.0, (refl, made.1.1)))
