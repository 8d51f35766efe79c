-- What the table says of a mnemonic is what the family of each instruction so written says. Assumes nothing.
use Rattle.std.proofs.Common.{◌≡◌, Some, None, Option, sym, refl, ◌∙◌, subst}
use Rattle.std.specs.Option.{MatchOption}
use Rattle.bytecode.specs.Instructions.{effect_by, effect_of, mnemonic_of}
use Rattle.bytecode.specs.declared.effect.Effect.{Effect}
use Rattle.bytecode.specs.declared.instruction.Comparison.TheVariants.{Equal, GreaterOrEqual, Greater, LessOrEqual, Less, NotEqual}
use Rattle.bytecode.specs.declared.instruction.Constant.TheVariants as constant
use Rattle.bytecode.specs.declared.instruction.Conversion.TheVariants.{IntToChar, IntToShort, IntToLong, LongToInt}
use Rattle.bytecode.specs.declared.instruction.Direction.TheVariants.{Left, Right}
use Rattle.bytecode.specs.declared.instruction.Instruction.{Instruction}
use Rattle.bytecode.specs.declared.instruction.Instruction.TheVariants.{Nop, Push, Arithmetic, Negate, Shift, Convert, CompareLong, Load, Store, Stack, Goto, IfZero, IfCompare, GetField, PutField, Call, GetOutput, Print, Read, Return, ReturnNumber}
use Rattle.bytecode.specs.declared.instruction.Operator.TheVariants.{Add, Subtract, Multiply, Divide, Remainder}
use Rattle.operands.specs.declared.StackOp.TheVariants as op
use Rattle.bytecode.specs.declared.kind.Number.TheVariants.{Int, Long}

abbrev Agrees : Option Effect → Effect → Type 0
Agrees None f = Unit {0}
Agrees (Some e) f = e ≡ f

each : (i : Instruction) → Agrees (effect_by (mnemonic_of i)) (effect_of i)
each Nop = refl
each (Push (constant.Short n)) = refl
each (Push (constant.Int n)) = tt
each (Push (constant.Long n)) = refl
each (Push (constant.Text place size)) = tt
each (Arithmetic Add Int) = refl
each (Arithmetic Add Long) = refl
each (Arithmetic Subtract Int) = refl
each (Arithmetic Subtract Long) = refl
each (Arithmetic Multiply Int) = refl
each (Arithmetic Multiply Long) = refl
each (Arithmetic Divide Int) = refl
each (Arithmetic Divide Long) = refl
each (Arithmetic Remainder Int) = refl
each (Arithmetic Remainder Long) = refl
each (Negate Int) = refl
each (Negate Long) = refl
each (Shift Left Int) = refl
each (Shift Left Long) = refl
each (Shift Right Int) = refl
each (Shift Right Long) = refl
each (Convert IntToChar) = refl
each (Convert IntToShort) = refl
each (Convert IntToLong) = refl
each (Convert LongToInt) = refl
each CompareLong = refl
each (Load Int r) = refl
each (Load Long r) = refl
each (Store Int r) = refl
each (Store Long r) = refl
each (Stack op.Dup) = refl
each (Stack op.Dup2) = refl
each (Stack op.Pop) = refl
each (Stack op.Pop2) = refl
each (Stack op.Swap) = refl
each (Goto t) = refl
each (IfZero Equal t) = refl
each (IfZero GreaterOrEqual t) = refl
each (IfZero Greater t) = refl
each (IfZero LessOrEqual t) = refl
each (IfZero Less t) = refl
each (IfZero NotEqual t) = refl
each (IfCompare Equal t) = refl
each (IfCompare GreaterOrEqual t) = refl
each (IfCompare Greater t) = refl
each (IfCompare LessOrEqual t) = refl
each (IfCompare Less t) = refl
each (IfCompare NotEqual t) = refl
each (GetField f) = tt
each (PutField f) = tt
each (Call f) = tt
each GetOutput = tt
each (Print p) = tt
each (Read r) = tt
each Return = refl
each (ReturnNumber Int) = refl
each (ReturnNumber Long) = refl

-- so an effect that the table gives, or else the operand, is the family's
pub by_table : (i : Instruction) (o : Option Effect) (r : Effect) → o ≡ effect_by (mnemonic_of i) → MatchOption o (effect_by (mnemonic_of i) ≡ None → r ≡ effect_of i) (λ e. r ≡ e) → r ≡ effect_of i
by_table i None r says operand = operand (sym says)
by_table i (Some e) r says same = same ∙ subst (λ o. Agrees o (effect_of i)) (sym says) (each i)
