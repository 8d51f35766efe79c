-- A frame stays a frame through an instruction, and the transfer is monotone. Assumes nothing.
use Rattle.std.proofs.Common.{◌≡◌, ◌≤◌, leb, List, ◌++◌, length, Some, None, Option, sym, refl, ap, ◌∙◌, subst}
use Rattle.std.proofs.lemmas.Bool.{cond-true, leb-true, le-leb}
use Rattle.bytecode.specs.Frames.{KindRegister, Frame, IsFrame, Links, stack_after, number_cells, where_some, hands_over, registers_after, framed, transfer, Below, over, TransferLaws}
use Rattle.bytecode.specs.Instructions.{Use, plain, reads, writes, returns, effect_of, use_of}
use Rattle.bytecode.specs.Kinds.{slots}
use Rattle.operands.specs.Registers.{AllWithin, Paired, none, int, long, int_at, long_at}
use Rattle.operands.specs.Stacks.{slots_of}
use Rattle.bytecode.specs.declared.descriptor.ReturnType.{ReturnType}
use Rattle.bytecode.specs.declared.instruction.Instruction.{Instruction}
use Rattle.bytecode.specs.declared.kind.Kind.{Kind}
use Rattle.bytecode.specs.declared.kind.Number.{Number}
use Rattle.bytecode.specs.declared.kind.Number.TheVariants.{Int, Long}
use Rattle.bytecode.proofs.Deepening.{stack_deeper}
use Rattle.operands.proofs.Storing.{when_some, int_at_within, long_at_within, stored_within, stored_paired, stored_length}

-- a frame that is made has its two parts, and its slots fit
parts : (s : Option (List Kind)) (rs : Option (List KindRegister)) (g : Frame) → framed s rs ≡ Some g → (s ≡ Some g.stack) × (rs ≡ Some g.registers) × (slots_of slots g.stack ≤ 16)
parts None rs g e = cc
parts (Some s) None g e = cc
parts (Some s) (Some rs) g e =
    let w = when_some (leb (slots_of slots s) 16) record { stack = s; registers = rs } g e in
    let stack : s ≡ g.stack = ap (λ (f : Frame). f.stack) w.1 in
    (ap Some stack, ap (λ (f : Frame). Some f.registers) w.1, subst (λ (t : List Kind). slots_of slots t ≤ 16) stack (leb-true _ _ w.0))

-- and from such parts it is made
made : (s : Option (List Kind)) (rs : Option (List KindRegister)) (g : Frame) → s ≡ Some g.stack → rs ≡ Some g.registers → slots_of slots g.stack ≤ 16 → framed s rs ≡ Some g
made s rs g stack registers fits =
    ap (λ (o : Option (List Kind)). framed o rs) stack ∙ ap (framed (Some g.stack)) registers ∙ cond-true _ _ _ (le-leb _ 16 fits)

-- the registers
is_there : {X Y : Type 0} (o : Option X) (y z : Y) → where_some o y ≡ Some z → (x : X) × (o ≡ Some x) × (y ≡ z)
is_there None y z e = cc
is_there (Some x) y z e = (x, refl, cc)

cells_paired : (k : Number) → Paired (number_cells k)
cells_paired Int = int none
cells_paired Long = long none

keeps : (result : ReturnType) (u : Use) (rs ss : List KindRegister) → Paired rs → registers_after result u rs ≡ Some ss → Paired ss × (length ss ≡ length rs)
keeps result plain rs ss p e = let same : rs ≡ ss = cc in (subst (λ (l : List KindRegister). Paired l) same p, ap length (sym same))
keeps result (reads Int n) rs ss p e = let w = is_there (int_at n rs) rs ss e in (subst (λ (l : List KindRegister). Paired l) w.2 p, ap length (sym w.2))
keeps result (reads Long n) rs ss p e = let w = is_there (long_at n rs) rs ss e in (subst (λ (l : List KindRegister). Paired l) w.2 p, ap length (sym w.2))
keeps result (writes k n) rs ss p e = (stored_paired (number_cells k) n rs ss (cells_paired k) p e, stored_length (number_cells k) n rs ss e)
keeps result (returns r) rs ss p e = let w = when_some (hands_over result r) rs ss e in (subst (λ (l : List KindRegister). Paired l) w.1 p, ap length (sym w.1))

kept : (links : Links) (i : Instruction) (f g : Frame) → IsFrame f → transfer links i f ≡ Some g → IsFrame g
kept links i f g is e =
    let p = parts (stack_after links (effect_of i) f.stack) (registers_after links.result (use_of i) f.registers) g e in
    let k = keeps links.result (use_of i) f.registers g.registers is.paired p.1 in
    record { fits = p.2; sixteen = k.1 ∙ is.sixteen; paired = k.0 }

-- what fits some registers fits those that hold more
rises : (result : ReturnType) (u : Use) (rs ss rs' : List KindRegister) → AllWithin rs ss → registers_after result u rs ≡ Some rs' → (ss' : List KindRegister) × (registers_after result u ss ≡ Some ss') × AllWithin rs' ss'
rises result plain rs ss rs' a e = let same : rs ≡ rs' = cc in (ss, refl, subst (λ (l : List KindRegister). AllWithin l ss) same a)
rises result (reads Int n) rs ss rs' a e =
    let w = is_there (int_at n rs) rs rs' e in
    (ss, ap (λ (o : Option (Unit {0})). where_some o ss) (int_at_within rs ss n w.0 a w.1), subst (λ (l : List KindRegister). AllWithin l ss) w.2 a)
rises result (reads Long n) rs ss rs' a e =
    let w = is_there (long_at n rs) rs rs' e in
    (ss, ap (λ (o : Option (Unit {0})). where_some o ss) (long_at_within rs ss n w.0 a w.1), subst (λ (l : List KindRegister). AllWithin l ss) w.2 a)
rises result (writes k n) rs ss rs' a e = stored_within (number_cells k) n rs ss rs' a e
rises result (returns r) rs ss rs' a e =
    let w = when_some (hands_over result r) rs rs' e in
    (ss, cond-true _ _ _ w.0, subst (λ (l : List KindRegister). AllWithin l ss) w.1 a)

monotone : (links : Links) (i : Instruction) (f g f' : Frame) → Below f g → transfer links i f ≡ Some f' → (g' : Frame) × (transfer links i g ≡ Some g') × Below f' g'
monotone links i f g f' b e =
    let p = parts (stack_after links (effect_of i) f.stack) (registers_after links.result (use_of i) f.registers) f' e in
    let r = rises links.result (use_of i) f.registers g.registers f'.registers b.registers p.1 in
    let g' : Frame = record { stack = f'.stack; registers = r.0 } in
    let stack : stack_after links (effect_of i) g.stack ≡ Some f'.stack = ap (stack_after links (effect_of i)) (sym b.stack) ∙ p.0 in
    (g', made _ _ g' stack r.1 p.2, record { stack = refl; registers = r.2 })

deeper : (links : Links) (i : Instruction) (f g : Frame) (more : List Kind) → transfer links i f ≡ Some g → slots_of slots (g.stack ++ more) ≤ 16 → transfer links i (over f more) ≡ Some (over g more)
deeper links i f g more e room =
    let p = parts (stack_after links (effect_of i) f.stack) (registers_after links.result (use_of i) f.registers) g e in
    made _ _ (over g more) (stack_deeper links (effect_of i) f.stack g.stack more p.0) p.1 room

pub transfer_laws : TransferLaws
transfer_laws = record { kept = kept; monotone = monotone; deeper = deeper }
