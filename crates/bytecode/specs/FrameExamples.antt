-- Worked examples of the transfer of a frame through an instruction. Assumes nothing.
use Rattle.std.specs.Prelude.{◌≡◌, ◌-◌, List, [], ◌∷◌, ◌++◌, map, length, replicate, Some, None, Option}
use Rattle.bytecode.specs.Frames.{Frame, KindRegister, Links, transfer}
use Rattle.bytecode.specs.declared.descriptor.FieldType.TheVariants as type
use Rattle.bytecode.specs.declared.descriptor.ReturnType.TheVariants.{Value}
use Rattle.bytecode.specs.declared.instruction.Direction.TheVariants.{Left}
use Rattle.bytecode.specs.declared.instruction.Instruction.{Instruction}
use Rattle.bytecode.specs.declared.instruction.Instruction.TheVariants.{Call, CompareLong, GetField, Load, Print, PutField, Read, Return, ReturnNumber, Shift, Stack, Store}
use Rattle.bytecode.specs.declared.instruction.PrintType.TheVariants as print
use Rattle.bytecode.specs.declared.instruction.ReadType.TheVariants as read
use Rattle.operands.specs.declared.StackOp.TheVariants.{Dup2, Swap}
use Rattle.bytecode.specs.declared.kind.Kind.{Kind}
use Rattle.bytecode.specs.declared.kind.Kind.TheVariants as kind
use Rattle.bytecode.specs.declared.kind.Number.TheVariants.{Int, Long}
use Rattle.operands.specs.declared.Register.TheVariants as register

-- An instruction, a frame, and what the one makes of the other.
pub record Example : Type 0 where
  pub instruction : Instruction
  pub before : Frame
  pub after : Option Frame

-- The kinds, and what a register holds.
abbrev I : Kind
I = kind.Int

abbrev J : Kind
J = kind.Long

abbrev T : Kind
T = kind.Text

abbrev O : Kind
O = kind.Output

abbrev unset : KindRegister
unset = register.Unset

abbrev int : KindRegister
int = register.Int tt

abbrev first : KindRegister
first = register.LongFirst tt

abbrev second : KindRegister
second = register.LongSecond

-- In the examples each field is a J, each method has the descriptor `(IJC)S`, and the method at hand returns a `C`.
abbrev example_links : Links
example_links = record { field = λ n. type.Long; method = λ n. record { parameters = type.Int ∷ type.Long ∷ type.Char ∷ []; result = Value type.Short }; result = Value type.Char }

-- The registers that are written out, and then unset ones, up to sixteen.
abbrev frame : List Kind → List KindRegister → Frame
frame stack registers = record { stack = stack; registers = registers ++ replicate (16 - length registers) unset }

abbrev makes : Instruction → Frame → Frame → Example
makes instruction before after = record { instruction = instruction; before = before; after = Some after }

abbrev misfits : Instruction → Frame → Example
misfits instruction before = record { instruction = instruction; before = before; after = None }

-- Stacks have the top first.
abbrev pub examples : List Example
examples =
    makes (Shift Left Long) (frame (I ∷ J ∷ T ∷ []) []) (frame (J ∷ T ∷ []) [])
    ∷ misfits (Shift Left Long) (frame (J ∷ J ∷ []) [])
    ∷ makes CompareLong (frame (J ∷ J ∷ []) []) (frame (I ∷ []) [])
    ∷ makes (Call 0) (frame (I ∷ J ∷ I ∷ O ∷ []) []) (frame (I ∷ O ∷ []) [])
    ∷ misfits (Call 0) (frame (J ∷ I ∷ I ∷ []) [])
    ∷ makes (GetField 0) (frame (T ∷ []) []) (frame (J ∷ T ∷ []) [])
    ∷ makes (PutField 0) (frame (J ∷ T ∷ []) []) (frame (T ∷ []) [])
    ∷ makes (Print print.Text) (frame (T ∷ O ∷ I ∷ []) []) (frame (I ∷ []) [])
    ∷ misfits (Print print.Text) (frame (O ∷ T ∷ []) [])
    ∷ makes (Stack Dup2) (frame (J ∷ []) []) (frame (J ∷ J ∷ []) [])
    ∷ misfits (Stack Swap) (frame (I ∷ J ∷ []) [])
    ∷ makes (Read read.Long) (frame (replicate 7 J) []) (frame (replicate 8 J) [])
    ∷ misfits (Read read.Char) (frame (replicate 8 J) [])
    ∷ makes (ReturnNumber Int) (frame (I ∷ J ∷ []) []) (frame (J ∷ []) [])
    ∷ misfits (ReturnNumber Long) (frame (J ∷ []) [])
    ∷ misfits Return (frame [] [])
    ∷ makes (Load Long 0) (frame [] (first ∷ second ∷ [])) (frame (J ∷ []) (first ∷ second ∷ []))
    ∷ misfits (Load Long 1) (frame [] (first ∷ second ∷ []))
    ∷ misfits (Load Int 0) (frame [] (first ∷ second ∷ []))
    ∷ makes (Store Int 15) (frame (I ∷ []) []) (frame [] (replicate 15 unset ++ int ∷ []))
    ∷ misfits (Store Int 16) (frame (I ∷ []) [])
    ∷ makes (Store Long 14) (frame (J ∷ []) []) (frame [] (replicate 14 unset ++ first ∷ second ∷ []))
    ∷ misfits (Store Long 15) (frame (J ∷ []) [])
    ∷ makes (Store Int 0) (frame (I ∷ []) (first ∷ second ∷ [])) (frame [] (int ∷ []))
    ∷ makes (Store Int 1) (frame (I ∷ []) (first ∷ second ∷ first ∷ second ∷ [])) (frame [] (unset ∷ int ∷ first ∷ second ∷ []))
    ∷ makes (Store Long 1) (frame (J ∷ []) (first ∷ second ∷ first ∷ second ∷ [])) (frame [] (unset ∷ first ∷ second ∷ []))
    ∷ []

-- Each comes out as it is written.
abbrev pub ExamplesHold : Type 0
ExamplesHold = map (λ e. transfer example_links e.instruction e.before) examples ≡ map (λ e. e.after) examples
