-- Type frames, and what an instruction makes of one. Assumes nothing.
use Rattle.std.specs.Prelude.{◌≡◌, ℕ, ◌≤◌, Bool, true, false, cond, List, [], ◌∷◌, ◌++◌, map, reverse, length, Some, None, Option, ◌==◌, nat_le}
use Rattle.bytecode.specs.Descriptors.{Signature, number_of}
use Rattle.bytecode.specs.Instructions.{Use, plain, reads, writes, returns, effect_of, use_of}
use Rattle.bytecode.specs.Kinds.{kind_of, slots}
use Rattle.operands.specs.Registers.{AllWithin, Paired, int_at, int_cells, long_at, long_cells, stored}
use Rattle.operands.specs.Stacks.{rearranged, slots_of, when}
use Rattle.bytecode.specs.declared.descriptor.FieldType.{FieldType}
use Rattle.bytecode.specs.declared.descriptor.ReturnType.{ReturnType}
use Rattle.bytecode.specs.declared.descriptor.ReturnType.TheVariants.{Void, Value}
use Rattle.bytecode.specs.declared.effect.Effect.{Effect}
use Rattle.bytecode.specs.declared.effect.Effect.TheVariants.{Fixed, Rearranges, GetsField, PutsField, Calls}
use Rattle.bytecode.specs.declared.effect.Takes.{Takes}
use Rattle.bytecode.specs.declared.effect.Takes.TheVariants.{Nothing, One, Two}
use Rattle.bytecode.specs.declared.instruction.Instruction.{Instruction}
use Rattle.bytecode.specs.declared.kind.Kind.{Kind}
use Rattle.bytecode.specs.declared.kind.Kind.TheVariants as kind
use Rattle.bytecode.specs.declared.kind.Number.{Number}
use Rattle.bytecode.specs.declared.kind.Number.TheVariants.{Int, Long}
use Rattle.operands.specs.declared.Register.{Register}

-- A register of a frame: unset, an I, or the first or the second half of a J.
abbrev pub KindRegister : Type 0
KindRegister = Register (Unit {0}) (Unit {0})

-- The kinds on the operand stack, the top first, and the registers.
pub record Frame : Type 0 where
  pub stack : List Kind
  pub registers : List KindRegister

-- At most 16 slots, and sixteen registers in which halves stand only in pairs.
pub record IsFrame (f : Frame) : Type 0 where
  pub fits : slots_of slots f.stack ≤ 16
  pub sixteen : length f.registers ≡ 16
  pub paired : Paired f.registers

-- What the numbers in instructions refer to: the type of a field, the signature of a method. And what the method returns
-- in which the instruction stands.
pub record Links : Type 0 where
  pub field : ℕ → FieldType
  pub method : ℕ → Signature
  pub result : ReturnType

-- Whether two kinds are the same.
abbrev pub kind_number : Kind → ℕ
kind_number kind.Int = 0
kind_number kind.Long = 1
kind_number kind.Text = 2
kind_number kind.Output = 3

abbrev pub same_kind : Kind → Kind → Bool
same_kind k l = kind_number k == kind_number l

-- The kinds that are taken, the top first, and those that are left.
abbrev pub taken : Takes → List Kind
taken Nothing = []
taken (One k) = k ∷ []
taken (Two k l) = l ∷ k ∷ []

abbrev pub left : Option Kind → List Kind
left None = []
left (Some k) = k ∷ []

abbrev pub type_kind : FieldType → Kind
type_kind t = kind_of (number_of t)

abbrev pub result_kinds : ReturnType → List Kind
result_kinds Void = []
result_kinds (Value t) = type_kind t ∷ []

-- What lies beneath the kinds that are taken; none where others lie on top.
abbrev pub beneath : List Kind → List Kind → Option (List Kind)
beneath [] s = Some s
beneath (k ∷ ks) [] = None
beneath (k ∷ ks) (x ∷ s) = cond (same_kind k x) (beneath ks s) None

abbrev pub onto : List Kind → Option (List Kind) → Option (List Kind)
onto ks None = None
onto ks (Some s) = Some (ks ++ s)

-- The stack with some kinds taken and others left in their place.
abbrev pub exchanged : List Kind → List Kind → List Kind → Option (List Kind)
exchanged takes leaves s = onto leaves (beneath takes s)

-- What an effect makes of a stack. A call takes its parameters, the last one from the top, and leaves its result.
abbrev pub stack_after : Links → Effect → List Kind → Option (List Kind)
stack_after links (Fixed takes leaves) s = exchanged (taken takes) (left leaves) s
stack_after links (Rearranges f) s = rearranged slots f s
stack_after links (GetsField n) s = exchanged [] (type_kind (links.field n) ∷ []) s
stack_after links (PutsField n) s = exchanged (type_kind (links.field n) ∷ []) [] s
stack_after links (Calls n) s = exchanged (reverse (map type_kind (links.method n).parameters)) (result_kinds (links.method n).result) s

-- How registers hold a number.
abbrev pub number_cells : Number → List KindRegister
number_cells Int = int_cells tt
number_cells Long = long_cells tt

-- The second, where the first is something.
abbrev pub where_some : {X Y : Type 0} → Option X → Y → Option Y
where_some None y = None
where_some (Some x) y = Some y

-- A return hands over what its method returns.
abbrev pub hands_over : ReturnType → Option Number → Bool
hands_over Void None = true
hands_over Void (Some n) = false
hands_over (Value t) None = false
hands_over (Value t) (Some n) = same_kind (type_kind t) (kind_of n)

-- What an instruction makes of the registers; none where they do not hold what it reads, where a register lies past the
-- last one, or where a return is not its method's.
abbrev pub registers_after : ReturnType → Use → List KindRegister → Option (List KindRegister)
registers_after result plain rs = Some rs
registers_after result (reads Int n) rs = where_some (int_at n rs) rs
registers_after result (reads Long n) rs = where_some (long_at n rs) rs
registers_after result (writes k n) rs = stored (number_cells k) n rs
registers_after result (returns r) rs = when (hands_over result r) rs

-- The frame of both parts, where both are there and 16 slots suffice.
abbrev pub framed : Option (List Kind) → Option (List KindRegister) → Option Frame
framed None rs = None
framed (Some s) None = None
framed (Some s) (Some rs) = when (nat_le (slots_of slots s) 16) record { stack = s; registers = rs }

-- What an instruction makes of a frame; none where it does not fit, or would leave more than 16 slots.
abbrev pub transfer : Links → Instruction → Frame → Option Frame
transfer links i f = framed (stack_after links (effect_of i) f.stack) (registers_after links.result (use_of i) f.registers)

-- `Below f g`: the same stack, and g's registers hold the same as f's, or more where f's are unset.
pub record Below (f g : Frame) : Type 0 where
  pub stack : f.stack ≡ g.stack
  pub registers : AllWithin f.registers g.registers

-- The frame with more kinds below its stack.
abbrev pub over : Frame → List Kind → Frame
over f more = record { stack = f.stack ++ more; registers = f.registers }

pub record TransferLaws : Type 0 where
  -- a frame stays a frame: its halves stay paired, its slots within 16
  pub kept : (links : Links) (i : Instruction) (f g : Frame) → IsFrame f → transfer links i f ≡ Some g → IsFrame g
  -- an instruction that fits a frame fits every frame above it, and the results are again one above the other
  pub monotone : (links : Links) (i : Instruction) (f g f' : Frame) → Below f g → transfer links i f ≡ Some f' → (g' : Frame) × (transfer links i g ≡ Some g') × Below f' g'
  -- more may lie below what is taken: it is left as it is, if there is room for it
  pub deeper : (links : Links) (i : Instruction) (f g : Frame) (more : List Kind) → transfer links i f ≡ Some g → slots_of slots (g.stack ++ more) ≤ 16 → transfer links i (over f more) ≡ Some (over g more)
