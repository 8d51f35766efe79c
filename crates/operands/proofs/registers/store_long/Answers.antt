use Rattle.operands.proofs.Storing.{keeps_pairs}
use Rattle.operands.proofs.Unsetting.{stored_long}
use Rattle.operands.proofs.registers.store_long.Goals as goal

pub returns-clause-value : goal.returns-clause-value
returns-clause-value g c =
    stored_long c.args.registers.now c.unset_halves.new.registers c.args.n c.args.value c.in_ok-unset_halves.ensures.unset.0 c.in_ok-unset_halves.ensures.unset.1

pub returns-in_err-unset_halves-clause-pairs : goal.returns-in_err-unset_halves-clause-pairs
returns-in_err-unset_halves-clause-pairs g c = keeps_pairs _ _

pub returns-clause-pairs : goal.returns-clause-pairs
returns-clause-pairs g c = keeps_pairs _ _
