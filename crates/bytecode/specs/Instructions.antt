-- Instructions: the mnemonic of each, what it does to the operand stack and to the registers, and which can follow.
-- Assumes nothing.
use Rattle.std.specs.Prelude.{ℕ, Some, None, Option}
use Rattle.bytecode.specs.Kinds.{kind_of}
use Rattle.bytecode.specs.Mnemonics.{table_effect}
use Rattle.bytecode.specs.declared.effect.Effect.{Effect}
use Rattle.bytecode.specs.declared.effect.Effect.TheVariants.{Fixed, Rearranges, GetsField, PutsField, Calls}
use Rattle.bytecode.specs.declared.effect.Takes.TheVariants.{Nothing, One, Two}
use Rattle.bytecode.specs.declared.instruction.Comparison.{Comparison}
use Rattle.bytecode.specs.declared.instruction.Comparison.TheVariants.{Equal, GreaterOrEqual, Greater, LessOrEqual, Less, NotEqual}
use Rattle.bytecode.specs.declared.instruction.Constant.{Constant}
use Rattle.bytecode.specs.declared.instruction.Constant.TheVariants as constant
use Rattle.bytecode.specs.declared.instruction.Conversion.{Conversion}
use Rattle.bytecode.specs.declared.instruction.Conversion.TheVariants.{IntToChar, IntToShort, IntToLong, LongToInt}
use Rattle.bytecode.specs.declared.instruction.Direction.{Direction}
use Rattle.bytecode.specs.declared.instruction.Direction.TheVariants.{Left, Right}
use Rattle.bytecode.specs.declared.instruction.Flow.{Flow}
use Rattle.bytecode.specs.declared.instruction.Flow.TheVariants.{Next, Jump, Branch, End}
use Rattle.bytecode.specs.declared.instruction.Instruction.{Instruction}
use Rattle.bytecode.specs.declared.instruction.Instruction.TheVariants.{Nop, Push, Arithmetic, Negate, Shift, Convert, CompareLong, Load, Store, Stack, Goto, IfZero, IfCompare, GetField, PutField, Call, GetOutput, Print, Read, Return, ReturnNumber}
use Rattle.bytecode.specs.declared.instruction.Operator.{Operator}
use Rattle.bytecode.specs.declared.instruction.Operator.TheVariants.{Add, Subtract, Multiply, Divide, Remainder}
use Rattle.bytecode.specs.declared.instruction.PrintType.{PrintType}
use Rattle.bytecode.specs.declared.instruction.PrintType.TheVariants as print
use Rattle.bytecode.specs.declared.instruction.ReadType.{ReadType}
use Rattle.bytecode.specs.declared.instruction.ReadType.TheVariants as read
use Rattle.operands.specs.declared.StackOp.{StackOp}
use Rattle.operands.specs.declared.StackOp.TheVariants as op
use Rattle.bytecode.specs.declared.kind.Kind.{Kind}
use Rattle.bytecode.specs.declared.kind.Kind.TheVariants as kind
use Rattle.bytecode.specs.declared.kind.Number.{Number}
use Rattle.bytecode.specs.declared.kind.Number.TheVariants.{Int, Long}
use Rattle.bytecode.specs.declared.mnemonic.Mnemonic.{Mnemonic}
use Rattle.bytecode.specs.declared.mnemonic.Mnemonic.TheVariants as m

-- The mnemonics of each family.
abbrev pub push_mnemonic : Constant → Mnemonic
push_mnemonic (constant.Short n) = m.Sipush
push_mnemonic (constant.Int n) = m.LdcW
push_mnemonic (constant.Long n) = m.Ldc2W
push_mnemonic (constant.Text place size) = m.LdcW

abbrev pub arithmetic_mnemonic : Operator → Number → Mnemonic
arithmetic_mnemonic Add Int = m.Iadd
arithmetic_mnemonic Subtract Int = m.Isub
arithmetic_mnemonic Multiply Int = m.Imul
arithmetic_mnemonic Divide Int = m.Idiv
arithmetic_mnemonic Remainder Int = m.Irem
arithmetic_mnemonic Add Long = m.Ladd
arithmetic_mnemonic Subtract Long = m.Lsub
arithmetic_mnemonic Multiply Long = m.Lmul
arithmetic_mnemonic Divide Long = m.Ldiv
arithmetic_mnemonic Remainder Long = m.Lrem

abbrev pub negate_mnemonic : Number → Mnemonic
negate_mnemonic Int = m.Ineg
negate_mnemonic Long = m.Lneg

abbrev pub shift_mnemonic : Direction → Number → Mnemonic
shift_mnemonic Left Int = m.Ishl
shift_mnemonic Right Int = m.Ishr
shift_mnemonic Left Long = m.Lshl
shift_mnemonic Right Long = m.Lshr

abbrev pub convert_mnemonic : Conversion → Mnemonic
convert_mnemonic IntToChar = m.I2c
convert_mnemonic IntToShort = m.I2s
convert_mnemonic IntToLong = m.I2l
convert_mnemonic LongToInt = m.L2i

abbrev pub load_mnemonic : Number → Mnemonic
load_mnemonic Int = m.Iload
load_mnemonic Long = m.Lload

abbrev pub store_mnemonic : Number → Mnemonic
store_mnemonic Int = m.Istore
store_mnemonic Long = m.Lstore

abbrev pub stack_mnemonic : StackOp → Mnemonic
stack_mnemonic op.Dup = m.Dup
stack_mnemonic op.Dup2 = m.Dup2
stack_mnemonic op.Pop = m.Pop
stack_mnemonic op.Pop2 = m.Pop2
stack_mnemonic op.Swap = m.Swap

abbrev pub zero_mnemonic : Comparison → Mnemonic
zero_mnemonic Equal = m.Ifeq
zero_mnemonic GreaterOrEqual = m.Ifge
zero_mnemonic Greater = m.Ifgt
zero_mnemonic LessOrEqual = m.Ifle
zero_mnemonic Less = m.Iflt
zero_mnemonic NotEqual = m.Ifne

abbrev pub int_mnemonic : Comparison → Mnemonic
int_mnemonic Equal = m.IfIcmpeq
int_mnemonic GreaterOrEqual = m.IfIcmpge
int_mnemonic Greater = m.IfIcmpgt
int_mnemonic LessOrEqual = m.IfIcmple
int_mnemonic Less = m.IfIcmplt
int_mnemonic NotEqual = m.IfIcmpne

abbrev pub return_mnemonic : Number → Mnemonic
return_mnemonic Int = m.Ireturn
return_mnemonic Long = m.Lreturn

-- The mnemonic that an instruction is written with. A print is written with `invokevirtual`, which is none, and a
-- reading block stands on several lines.
abbrev pub mnemonic_of : Instruction → Option Mnemonic
mnemonic_of Nop = Some m.Nop
mnemonic_of (Push c) = Some (push_mnemonic c)
mnemonic_of (Arithmetic f n) = Some (arithmetic_mnemonic f n)
mnemonic_of (Negate n) = Some (negate_mnemonic n)
mnemonic_of (Shift d n) = Some (shift_mnemonic d n)
mnemonic_of (Convert c) = Some (convert_mnemonic c)
mnemonic_of CompareLong = Some m.Lcmp
mnemonic_of (Load n r) = Some (load_mnemonic n)
mnemonic_of (Store n r) = Some (store_mnemonic n)
mnemonic_of (Stack f) = Some (stack_mnemonic f)
mnemonic_of (Goto t) = Some m.Goto
mnemonic_of (IfZero c t) = Some (zero_mnemonic c)
mnemonic_of (IfCompare c t) = Some (int_mnemonic c)
mnemonic_of (GetField f) = Some m.Getstatic
mnemonic_of (PutField f) = Some m.Putstatic
mnemonic_of (Call f) = Some m.Invokestatic
mnemonic_of GetOutput = Some m.Getstatic
mnemonic_of (Print p) = None
mnemonic_of (Read r) = None
mnemonic_of Return = Some m.Return
mnemonic_of (ReturnNumber n) = Some (return_mnemonic n)

-- What the table says of a mnemonic.
abbrev pub effect_by : Option Mnemonic → Option Effect
effect_by None = None
effect_by (Some m) = table_effect m

abbrev pub constant_kind : Constant → Kind
constant_kind (constant.Short n) = kind.Int
constant_kind (constant.Int n) = kind.Int
constant_kind (constant.Long n) = kind.Long
constant_kind (constant.Text place size) = kind.Text

abbrev pub converts_from : Conversion → Kind
converts_from IntToChar = kind.Int
converts_from IntToShort = kind.Int
converts_from IntToLong = kind.Int
converts_from LongToInt = kind.Long

abbrev pub converts_to : Conversion → Kind
converts_to IntToChar = kind.Int
converts_to IntToShort = kind.Int
converts_to IntToLong = kind.Long
converts_to LongToInt = kind.Int

abbrev pub print_kind : PrintType → Kind
print_kind print.Char = kind.Int
print_kind print.Int = kind.Int
print_kind print.Long = kind.Long
print_kind print.Text = kind.Text

abbrev pub read_kind : ReadType → Kind
read_kind read.Char = kind.Int
read_kind read.Int = kind.Int
read_kind read.Long = kind.Long

-- What an instruction does to the operand stack, family by family.
abbrev pub effect_of : Instruction → Effect
effect_of Nop = Fixed Nothing None
effect_of (Push c) = Fixed Nothing (Some (constant_kind c))
effect_of (Arithmetic f n) = Fixed (Two (kind_of n) (kind_of n)) (Some (kind_of n))
effect_of (Negate n) = Fixed (One (kind_of n)) (Some (kind_of n))
effect_of (Shift d n) = Fixed (Two (kind_of n) kind.Int) (Some (kind_of n))
effect_of (Convert c) = Fixed (One (converts_from c)) (Some (converts_to c))
effect_of CompareLong = Fixed (Two kind.Long kind.Long) (Some kind.Int)
effect_of (Load n r) = Fixed Nothing (Some (kind_of n))
effect_of (Store n r) = Fixed (One (kind_of n)) None
effect_of (Stack f) = Rearranges f
effect_of (Goto t) = Fixed Nothing None
effect_of (IfZero c t) = Fixed (One kind.Int) None
effect_of (IfCompare c t) = Fixed (Two kind.Int kind.Int) None
effect_of (GetField f) = GetsField f
effect_of (PutField f) = PutsField f
effect_of (Call f) = Calls f
effect_of GetOutput = Fixed Nothing (Some kind.Output)
effect_of (Print p) = Fixed (Two kind.Output (print_kind p)) None
effect_of (Read r) = Fixed Nothing (Some (read_kind r))
effect_of Return = Fixed Nothing None
effect_of (ReturnNumber n) = Fixed (One (kind_of n)) None

-- What an instruction asks beside what it takes from the stack.
pub data Use : Type 0 where
  -- nothing
  plain : Use
  -- a number in a register, and the next one for a J
  reads : Number → ℕ → Use
  writes : Number → ℕ → Use
  -- that its method returns a number of this kind, or nothing
  returns : Option Number → Use

abbrev pub use_of : Instruction → Use
use_of Nop = plain
use_of (Push c) = plain
use_of (Arithmetic f n) = plain
use_of (Negate n) = plain
use_of (Shift d n) = plain
use_of (Convert c) = plain
use_of CompareLong = plain
use_of (Load n r) = reads n r
use_of (Store n r) = writes n r
use_of (Stack f) = plain
use_of (Goto t) = plain
use_of (IfZero c t) = plain
use_of (IfCompare c t) = plain
use_of (GetField f) = plain
use_of (PutField f) = plain
use_of (Call f) = plain
use_of GetOutput = plain
use_of (Print p) = plain
use_of (Read r) = plain
use_of Return = returns None
use_of (ReturnNumber n) = returns (Some n)

-- Which instructions can follow.
abbrev pub flow_of : Instruction → Flow
flow_of Nop = Next
flow_of (Push c) = Next
flow_of (Arithmetic f n) = Next
flow_of (Negate n) = Next
flow_of (Shift d n) = Next
flow_of (Convert c) = Next
flow_of CompareLong = Next
flow_of (Load n r) = Next
flow_of (Store n r) = Next
flow_of (Stack f) = Next
flow_of (Goto t) = Jump t
flow_of (IfZero c t) = Branch t
flow_of (IfCompare c t) = Branch t
flow_of (GetField f) = Next
flow_of (PutField f) = Next
flow_of (Call f) = Next
flow_of GetOutput = Next
flow_of (Print p) = Next
flow_of (Read r) = Next
flow_of Return = End
flow_of (ReturnNumber n) = End
