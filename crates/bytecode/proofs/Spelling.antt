-- No two mnemonics are spelled alike, and what a search of their table finds. Assumes nothing.
use Rattle.std.proofs.Common.{Bor, length, arith, ◌≡◌, ℕ, ◌<◌, cond, List, [], ◌∷◌, map, get_or, Some, None, Option, sym, refl, ap, subst, ◌∙◌, lit<}
use Rattle.std.proofs.lemmas.List.{get_or-map, length-map}
use Rattle.std.specs.List.{AllWithin, HoldsAt}
use Rattle.std.specs.Option.{MatchOption, option_map}
use Rattle.std.specs.Str.{bytes_eq}
use Rattle.bytecode.specs.Mnemonics.{Spells, spelling}
use Rattle.bytecode.specs.declared.mnemonic.Row.{Row}
use Rattle.bytecode.specs.declared.mnemonic.Mnemonic.{Mnemonic}
use Rattle.bytecode.specs.declared.mnemonic.Mnemonic.TheVariants.{Iadd, Idiv, Imul, Ineg, Irem, Ishl, Ishr, Isub, Ladd, Ldiv, Lmul, Lneg, Lrem, Lshl, Lshr, Lsub, LdcW, Ldc2W, Sipush, Goto, IfIcmpeq, IfIcmpge, IfIcmpgt, IfIcmple, IfIcmplt, IfIcmpne, Ifeq, Ifge, Ifgt, Ifle, Iflt, Ifne, Ireturn, Lcmp, Lreturn, Nop, Return, I2c, I2s, I2l, L2i, Dup, Dup2, Pop, Pop2, Swap, Getstatic, Invokestatic, Putstatic, Iload, Istore, Lload, Lstore}

abbrev pub mnemonics : List Mnemonic
mnemonics = Iadd ∷ Idiv ∷ Imul ∷ Ineg ∷ Irem ∷ Ishl ∷ Ishr ∷ Isub ∷ Ladd ∷ Ldiv ∷ Lmul ∷ Lneg ∷ Lrem ∷ Lshl ∷ Lshr ∷ Lsub ∷ LdcW ∷ Ldc2W ∷ Sipush ∷ Goto ∷ IfIcmpeq ∷ IfIcmpge ∷ IfIcmpgt ∷ IfIcmple ∷ IfIcmplt ∷ IfIcmpne ∷ Ifeq ∷ Ifge ∷ Ifgt ∷ Ifle ∷ Iflt ∷ Ifne ∷ Ireturn ∷ Lcmp ∷ Lreturn ∷ Nop ∷ Return ∷ I2c ∷ I2s ∷ I2l ∷ L2i ∷ Dup ∷ Dup2 ∷ Pop ∷ Pop2 ∷ Swap ∷ Getstatic ∷ Invokestatic ∷ Putstatic ∷ Iload ∷ Istore ∷ Lload ∷ Lstore ∷ []

-- each has its place in the list
pub placed : (m : Mnemonic) → (k : ℕ) × (k < 53) × (get_or mnemonics k Iadd ≡ m)
placed Iadd = (0, lit< tt, refl)
placed Idiv = (1, lit< tt, refl)
placed Imul = (2, lit< tt, refl)
placed Ineg = (3, lit< tt, refl)
placed Irem = (4, lit< tt, refl)
placed Ishl = (5, lit< tt, refl)
placed Ishr = (6, lit< tt, refl)
placed Isub = (7, lit< tt, refl)
placed Ladd = (8, lit< tt, refl)
placed Ldiv = (9, lit< tt, refl)
placed Lmul = (10, lit< tt, refl)
placed Lneg = (11, lit< tt, refl)
placed Lrem = (12, lit< tt, refl)
placed Lshl = (13, lit< tt, refl)
placed Lshr = (14, lit< tt, refl)
placed Lsub = (15, lit< tt, refl)
placed LdcW = (16, lit< tt, refl)
placed Ldc2W = (17, lit< tt, refl)
placed Sipush = (18, lit< tt, refl)
placed Goto = (19, lit< tt, refl)
placed IfIcmpeq = (20, lit< tt, refl)
placed IfIcmpge = (21, lit< tt, refl)
placed IfIcmpgt = (22, lit< tt, refl)
placed IfIcmple = (23, lit< tt, refl)
placed IfIcmplt = (24, lit< tt, refl)
placed IfIcmpne = (25, lit< tt, refl)
placed Ifeq = (26, lit< tt, refl)
placed Ifge = (27, lit< tt, refl)
placed Ifgt = (28, lit< tt, refl)
placed Ifle = (29, lit< tt, refl)
placed Iflt = (30, lit< tt, refl)
placed Ifne = (31, lit< tt, refl)
placed Ireturn = (32, lit< tt, refl)
placed Lcmp = (33, lit< tt, refl)
placed Lreturn = (34, lit< tt, refl)
placed Nop = (35, lit< tt, refl)
placed Return = (36, lit< tt, refl)
placed I2c = (37, lit< tt, refl)
placed I2s = (38, lit< tt, refl)
placed I2l = (39, lit< tt, refl)
placed L2i = (40, lit< tt, refl)
placed Dup = (41, lit< tt, refl)
placed Dup2 = (42, lit< tt, refl)
placed Pop = (43, lit< tt, refl)
placed Pop2 = (44, lit< tt, refl)
placed Swap = (45, lit< tt, refl)
placed Getstatic = (46, lit< tt, refl)
placed Invokestatic = (47, lit< tt, refl)
placed Putstatic = (48, lit< tt, refl)
placed Iload = (49, lit< tt, refl)
placed Istore = (50, lit< tt, refl)
placed Lload = (51, lit< tt, refl)
placed Lstore = (52, lit< tt, refl)

-- the first of the list that is spelled so
abbrev spelled_in : List Mnemonic → List ℕ → Option Mnemonic
spelled_in [] word = None
spelled_in (m ∷ ms) word = cond (bytes_eq (spelling m) word) (Some m) (spelled_in ms word)

-- one test, computed over the whole list: each is the first that is spelled as it is
each_first : map (λ m. spelled_in mnemonics (spelling m)) mnemonics ≡ map Some mnemonics
each_first = refl

first : (m : Mnemonic) → spelled_in mnemonics (spelling m) ≡ Some m
first m =
    let p = placed m in
    let at = get_or-map (λ n. spelled_in mnemonics (spelling n)) mnemonics p.0 Iadd None p.1 in
    let here = get_or-map Some mnemonics p.0 Iadd None p.1 in
    let same = ap (λ l. get_or l p.0 None) each_first in
    ap (λ n. spelled_in mnemonics (spelling n)) (sym p.2) ∙ sym at ∙ same ∙ here ∙ ap Some p.2

pub spelled_once : (m n : Mnemonic) → spelling m ≡ spelling n → m ≡ n
spelled_once m n e = let same = sym (first m) ∙ ap (spelled_in mnemonics) e ∙ first n in cc

-- the columns of the table
abbrev pub named : List Row → List Mnemonic
named rows = map (λ row. row.0) rows

abbrev pub spelled : List Row → List (List ℕ)
spelled rows = map (λ row. row.1.now) rows

-- what a search of the rows for a word finds
abbrev Finds : List Row → List ℕ → Option (Bor Row) → Type 0
Finds rows word r =
    MatchOption r
    (AllWithin (λ row. row.1.now ≡ word → ⊥) rows 0 (length rows))
    (λ x. (x.now.1.now ≡ word) × (i : ℕ) × (i < length rows) × HoldsAt (λ row. row ≡ x.now) rows i × AllWithin (λ row. row.1.now ≡ word → ⊥) rows 0 i)

a_row : (rows : List Row) → named rows ≡ mnemonics → Row
a_row [] names = absurd (let long = ap length names in omega arith)
a_row (row ∷ rows) names = row

module _ (rows : List Row) (names : named rows ≡ mnemonics) (spellings : spelled rows ≡ map spelling mnemonics) where
  row_spelled : (k : ℕ) (d : Row) → k < length rows → (get_or rows k d).1.now ≡ spelling (get_or rows k d).0
  row_spelled k d h =
      sym (get_or-map (λ (row : Row). row.1.now) rows k d [] h)
      ∙ ap (λ l. get_or l k []) (spellings ∙ ap (map spelling) (sym names))
      ∙ get_or-map spelling (named rows) k d.0 [] (subst (λ n. k < n) (sym (length-map rows (λ row. row.0))) h)
      ∙ ap spelling (get_or-map (λ (row : Row). row.0) rows k d d.0 h)

  pub found : (word : List ℕ) (r : Option (Bor Row)) → Finds rows word r → Spells word (option_map (λ x. x.now.0) r)
  found word None none = λ m same.
      let p = placed m in
      let d = a_row rows names in
      let h : p.0 < length rows = subst (λ n. p.0 < n) (ap length (sym names) ∙ length-map rows (λ row. row.0)) p.1 in
      let name : (get_or rows p.0 d).0 ≡ m = sym (get_or-map (λ (row : Row). row.0) rows p.0 d Iadd h) ∙ ap (λ l. get_or l p.0 Iadd) names ∙ p.2 in
      none p.0 d (omega arith) h (row_spelled p.0 d h ∙ ap spelling name ∙ same)
  found word (Some x) one =
      let at = one.3 x.now in
      let here : spelling x.now.0 ≡ word = ap (λ (row : Row). spelling row.0) (sym at) ∙ sym (row_spelled one.1 x.now one.2) ∙ ap (λ (row : Row). row.1.now) at ∙ one.0 in
      (here, λ n e. spelled_once n _ (e ∙ sym here))
