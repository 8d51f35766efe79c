-- What a descriptor that was read says. Assumes nothing.
use Rattle.std.specs.Prelude.{◌≡◌, ℕ, ◌≤◌, List, length, map, take, Some, None, Option, ◌≢◌}
use Rattle.bytecode.specs.Descriptors.{Signature, letter, registers_of, spelled}
use Rattle.bytecode.specs.declared.descriptor.Descriptor.{Descriptor}
use Rattle.bytecode.specs.declared.descriptor.FieldType.{FieldType}

abbrev pub signature_of : Descriptor → Signature
signature_of d = record { parameters = take d.count d.parameters; result = d.result }

-- `Reads text r`: r is what the text spells; where r is none, the text spells no signature whose parameters take at most
-- 16 registers.
abbrev pub Reads : List ℕ → Option Descriptor → Type 0
Reads text (Some d) = spelled (signature_of d) ≡ text
Reads text None = (s : Signature) → registers_of s.parameters ≤ 16 → spelled s ≢ text

-- `StandFor letters r`: the first types of r have these letters; where r is none, no more than 16 types have them.
abbrev pub StandFor : List ℕ → Option (List FieldType) → Type 0
StandFor letters (Some ts) = map letter (take (length letters) ts) ≡ letters
StandFor letters None = (ts : List FieldType) → length ts ≤ 16 → map letter ts ≢ letters
