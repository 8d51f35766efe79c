-- The slots of a value of the test. Assumes nothing.
use Rattle.std.specs.Prelude.{ℕ}
use Rattle.bytecode_tests.specs.declared.value.Value.{Value}
use Rattle.bytecode_tests.specs.declared.value.Value.TheVariants.{Int, Long}

abbrev pub value_slots : Value → ℕ
value_slots (Int v) = 1
value_slots (Long v) = 2
