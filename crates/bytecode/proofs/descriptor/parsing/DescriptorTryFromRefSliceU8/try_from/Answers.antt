use Rattle.std.proofs.Common.{[], ◌∷◌, ◌++◌, sym, ap, ◌∙◌, arith}
use Rattle.bytecode.specs.Descriptors.{registers_of}
use Rattle.bytecode.specs.Signatures.{Reads}
use Rattle.bytecode.proofs.Describing.{letters_same, length_within, made, not_read, outline, parts, spells_once}
use Rattle.bytecode.proofs.descriptor.parsing.DescriptorTryFromRefSliceU8.try_from.Goals as goal

pub returns-in_default : goal.returns-in_default
returns-in_default c = ((λ s fits e. omega (arith, outline s c.args.text.now e)), spells_once)

pub returns-in_default-2 : goal.returns-in_default-2
returns-in_default-2 c = ((λ s fits e. omega (arith, outline s c.args.text.now e)), spells_once)

pub returns-in_default-3 : goal.returns-in_default-3
returns-in_default-3 c = ((λ s fits e. omega (arith, outline s c.args.text.now e)), spells_once)

pub returns-in_err-result : goal.returns-in_err-result
returns-in_err-result c = (
  not_read (Reads c.args.text.now) c.from_residual.result c.from_residual.ensures.0 (λ s fits e. c.in_err-result.ensures s.result (parts s _ _ (e ∙ made c.args.text.now (omega arith) (omega arith) (omega arith))).1),
  spells_once,
)

pub returns-in_err-parameters : goal.returns-in_err-parameters
returns-in_err-parameters c = (
  not_read (Reads c.args.text.now) c.from_residual-in_err-parameters.result c.from_residual-in_err-parameters.ensures.0 (λ s fits e.
      c.in_err-parameters.ensures s.parameters (omega (arith, length_within s.parameters)) (parts s _ _ (e ∙ made c.args.text.now (omega arith) (omega arith) (omega arith))).0),
  spells_once,
)

pub returns-then-registers_of-gt-MOST : goal.returns-then-registers_of-gt-MOST
returns-then-registers_of-gt-MOST c = (
  (λ s fits e.
      let read = parts s _ _ (e ∙ made c.args.text.now (omega arith) (omega arith) (omega arith)) in
      let same = letters_same s.parameters _ (read.0 ∙ sym c.in_ok-parameters.ensures) in
      omega (arith, c.registers_of.ensures ∙ ap registers_of (sym same))),
  spells_once,
)

pub returns : goal.returns
returns c = (
  (λ k. 40 ∷ (c.in_ok-parameters.ensures k ++ 41 ∷ c.in_ok-result.ensures k ∷ [])) ∙ sym (made c.args.text.now (omega arith) (omega arith) (omega arith)),
  spells_once,
)
