-- Kinds of values and their slots. Assumes nothing.
use Rattle.std.specs.Prelude.{ℕ, List, codes}
use Rattle.bytecode.specs.declared.kind.Kind.{Kind}
use Rattle.bytecode.specs.declared.kind.Kind.TheVariants as kind
use Rattle.bytecode.specs.declared.kind.Number.{Number}
use Rattle.bytecode.specs.declared.kind.Number.TheVariants as number

-- A J takes two slots, the others one.
abbrev pub slots : Kind → ℕ
slots kind.Int = 1
slots kind.Long = 2
slots kind.Text = 1
slots kind.Output = 1

-- The letter of a kind, as it is printed.
abbrev pub kind_letter : Kind → List ℕ
kind_letter kind.Int = codes "I"
kind_letter kind.Long = codes "J"
kind_letter kind.Text = codes "T"
kind_letter kind.Output = codes "O"

abbrev pub kind_of : Number → Kind
kind_of number.Int = kind.Int
kind_of number.Long = kind.Long

-- A number takes as many registers as slots.
abbrev pub size : Number → ℕ
size n = slots (kind_of n)
