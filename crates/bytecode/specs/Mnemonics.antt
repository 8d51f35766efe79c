-- The mnemonics: how each is spelled, and what it takes from the operand stack and leaves on it. Assumes nothing.
use Rattle.std.specs.Prelude.{◌≡◌, ℕ, List, Some, None, codes, Option, ◌≢◌}
use Rattle.bytecode.specs.declared.effect.Effect.{Effect}
use Rattle.bytecode.specs.declared.effect.Effect.TheVariants.{Fixed, Rearranges}
use Rattle.bytecode.specs.declared.effect.Takes.TheVariants.{Nothing, One, Two}
use Rattle.operands.specs.declared.StackOp.TheVariants as op
use Rattle.bytecode.specs.declared.kind.Kind.{Kind}
use Rattle.bytecode.specs.declared.kind.Kind.TheVariants.{Int, Long}
use Rattle.bytecode.specs.declared.mnemonic.Mnemonic.{Mnemonic}
use Rattle.bytecode.specs.declared.mnemonic.Mnemonic.TheVariants.{Iadd, Idiv, Imul, Ineg, Irem, Ishl, Ishr, Isub, Ladd, Ldiv, Lmul, Lneg, Lrem, Lshl, Lshr, Lsub, LdcW, Ldc2W, Sipush, Goto, IfIcmpeq, IfIcmpge, IfIcmpgt, IfIcmple, IfIcmplt, IfIcmpne, Ifeq, Ifge, Ifgt, Ifle, Iflt, Ifne, Ireturn, Lcmp, Lreturn, Nop, Return, I2c, I2s, I2l, L2i, Dup, Dup2, Pop, Pop2, Swap, Getstatic, Invokestatic, Putstatic, Iload, Istore, Lload, Lstore}

abbrev pub spelling : Mnemonic → List ℕ
spelling Iadd = codes "iadd"
spelling Idiv = codes "idiv"
spelling Imul = codes "imul"
spelling Ineg = codes "ineg"
spelling Irem = codes "irem"
spelling Ishl = codes "ishl"
spelling Ishr = codes "ishr"
spelling Isub = codes "isub"
spelling Ladd = codes "ladd"
spelling Ldiv = codes "ldiv"
spelling Lmul = codes "lmul"
spelling Lneg = codes "lneg"
spelling Lrem = codes "lrem"
spelling Lshl = codes "lshl"
spelling Lshr = codes "lshr"
spelling Lsub = codes "lsub"
spelling LdcW = codes "ldc_w"
spelling Ldc2W = codes "ldc2_w"
spelling Sipush = codes "sipush"
spelling Goto = codes "goto"
spelling IfIcmpeq = codes "if_icmpeq"
spelling IfIcmpge = codes "if_icmpge"
spelling IfIcmpgt = codes "if_icmpgt"
spelling IfIcmple = codes "if_icmple"
spelling IfIcmplt = codes "if_icmplt"
spelling IfIcmpne = codes "if_icmpne"
spelling Ifeq = codes "ifeq"
spelling Ifge = codes "ifge"
spelling Ifgt = codes "ifgt"
spelling Ifle = codes "ifle"
spelling Iflt = codes "iflt"
spelling Ifne = codes "ifne"
spelling Ireturn = codes "ireturn"
spelling Lcmp = codes "lcmp"
spelling Lreturn = codes "lreturn"
spelling Nop = codes "nop"
spelling Return = codes "return"
spelling I2c = codes "i2c"
spelling I2s = codes "i2s"
spelling I2l = codes "i2l"
spelling L2i = codes "l2i"
spelling Dup = codes "dup"
spelling Dup2 = codes "dup2"
spelling Pop = codes "pop"
spelling Pop2 = codes "pop2"
spelling Swap = codes "swap"
spelling Getstatic = codes "getstatic"
spelling Invokestatic = codes "invokestatic"
spelling Putstatic = codes "putstatic"
spelling Iload = codes "iload"
spelling Istore = codes "istore"
spelling Lload = codes "lload"
spelling Lstore = codes "lstore"

-- `Spells word r`: r is the mnemonic that is spelled by the word, or none where no mnemonic is; no two are spelled alike.
abbrev pub Spells : List ℕ → Option Mnemonic → Type 0
Spells word (Some m) = (spelling m ≡ word) × ((n : Mnemonic) → spelling n ≡ word → n ≡ m)
Spells word None = (m : Mnemonic) → spelling m ≢ word

abbrev I : Kind
I = Int

abbrev J : Kind
J = Long

-- The kinds that are taken, the last from the top, and the kind that is left. None where the operand decides.
abbrev pub table_effect : Mnemonic → Option Effect
table_effect Iadd = Some (Fixed (Two I I) (Some I))
table_effect Idiv = Some (Fixed (Two I I) (Some I))
table_effect Imul = Some (Fixed (Two I I) (Some I))
table_effect Ineg = Some (Fixed (One I) (Some I))
table_effect Irem = Some (Fixed (Two I I) (Some I))
table_effect Ishl = Some (Fixed (Two I I) (Some I))
table_effect Ishr = Some (Fixed (Two I I) (Some I))
table_effect Isub = Some (Fixed (Two I I) (Some I))
table_effect Ladd = Some (Fixed (Two J J) (Some J))
table_effect Ldiv = Some (Fixed (Two J J) (Some J))
table_effect Lmul = Some (Fixed (Two J J) (Some J))
table_effect Lneg = Some (Fixed (One J) (Some J))
table_effect Lrem = Some (Fixed (Two J J) (Some J))
table_effect Lshl = Some (Fixed (Two J I) (Some J))
table_effect Lshr = Some (Fixed (Two J I) (Some J))
table_effect Lsub = Some (Fixed (Two J J) (Some J))
table_effect LdcW = None
table_effect Ldc2W = Some (Fixed Nothing (Some J))
table_effect Sipush = Some (Fixed Nothing (Some I))
table_effect Goto = Some (Fixed Nothing None)
table_effect IfIcmpeq = Some (Fixed (Two I I) None)
table_effect IfIcmpge = Some (Fixed (Two I I) None)
table_effect IfIcmpgt = Some (Fixed (Two I I) None)
table_effect IfIcmple = Some (Fixed (Two I I) None)
table_effect IfIcmplt = Some (Fixed (Two I I) None)
table_effect IfIcmpne = Some (Fixed (Two I I) None)
table_effect Ifeq = Some (Fixed (One I) None)
table_effect Ifge = Some (Fixed (One I) None)
table_effect Ifgt = Some (Fixed (One I) None)
table_effect Ifle = Some (Fixed (One I) None)
table_effect Iflt = Some (Fixed (One I) None)
table_effect Ifne = Some (Fixed (One I) None)
table_effect Ireturn = Some (Fixed (One I) None)
table_effect Lcmp = Some (Fixed (Two J J) (Some I))
table_effect Lreturn = Some (Fixed (One J) None)
table_effect Nop = Some (Fixed Nothing None)
table_effect Return = Some (Fixed Nothing None)
table_effect I2c = Some (Fixed (One I) (Some I))
table_effect I2s = Some (Fixed (One I) (Some I))
table_effect I2l = Some (Fixed (One I) (Some J))
table_effect L2i = Some (Fixed (One J) (Some I))
table_effect Dup = Some (Rearranges op.Dup)
table_effect Dup2 = Some (Rearranges op.Dup2)
table_effect Pop = Some (Rearranges op.Pop)
table_effect Pop2 = Some (Rearranges op.Pop2)
table_effect Swap = Some (Rearranges op.Swap)
table_effect Getstatic = None
table_effect Invokestatic = None
table_effect Putstatic = None
table_effect Iload = Some (Fixed Nothing (Some I))
table_effect Istore = Some (Fixed (One I) None)
table_effect Lload = Some (Fixed Nothing (Some J))
table_effect Lstore = Some (Fixed (One J) None)
