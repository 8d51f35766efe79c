-- A refusal with its layer and line. Assumes nothing.
use Rattle.std.specs.Prelude.{ℕ, List, ◌++◌, codes, decimal}
use Rattle.reader.specs.Refusals.{layer_of, number_of}
use Rattle.reader.specs.declared.fault.EntryFault.{EntryFault}
use Rattle.reader.specs.declared.fault.EntryFault.TheVariants.{TextTooLong, TooFewRows}
use Rattle.reader.specs.declared.fault.Fault.{Fault}
use Rattle.reader.specs.declared.fault.WordFault.{WordFault}
use Rattle.reader.specs.declared.refusal.Refusal.{Refusal}
use Rattle.reader.specs.declared.refusal.Refusal.TheVariants as refusal

-- The fault of a refusal at a line.
abbrev pub fault_at : Refusal → ℕ → Fault
fault_at r line = record { refusal = r; layer = layer_of r; line = line }

-- What the faults of a layer become.
abbrev pub entry_fault : EntryFault → Fault
entry_fault TextTooLong = fault_at refusal.TextTooLong 0
entry_fault TooFewRows = fault_at refusal.TooFewRows 0

abbrev pub word_fault : WordFault → Fault
word_fault f = fault_at refusal.UnreadableWord f.line

-- What a fault prints as: the refusal's number, a space and the line.
abbrev pub fault_text : Fault → List ℕ
fault_text fault = decimal (number_of fault.refusal) ++ codes " " ++ decimal fault.line
