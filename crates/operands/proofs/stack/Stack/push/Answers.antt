use Rattle.operands.proofs.Stacking.{few_cells}
use Rattle.operands.proofs.stack.Stack.push.Goals as goal

pub returns-in_err-check_room-clause-few : goal.returns-in_err-check_room-clause-few
returns-in_err-check_room-clause-few g c = few_cells g.C.Cell.size g.met.C.Cell.bounded

pub returns-clause-few : goal.returns-clause-few
returns-clause-few g c = few_cells g.C.Cell.size g.met.C.Cell.bounded
