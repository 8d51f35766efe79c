-- What a proof sheet shows. Assumes nothing.
use Rattle.std.specs.Prelude.{◌≡◌, ℕ, ◌+◌, ◌<◌, List, [], ◌++◌, length, take, Ok, Err, sum_by, Result, slice_index_or, codes, decimal}
use Rattle.std.specs.List.{flat_map}
use Rattle.captions.specs.Captions.{captions_of}
use Rattle.captions.specs.declared.sheet.SheetFault.{SheetFault}
use Rattle.captions.specs.declared.sheet.SheetFault.TheVariants as fault
use Rattle.devices.specs.Costs.{cost}
use Rattle.devices.specs.Panels.{PanelState, Room}
use Rattle.reader.specs.Arises.{Readable, Refused}
use Rattle.reader.specs.Faults.{fault_text}

-- `Shown p texts q`: the panel p has become q by showing the texts. They follow what was shown, in order,
-- and the units that were left are those that are left now and the texts' costs.
pub record Shown (p : PanelState) (texts : List (List ℕ)) (q : PanelState) : Type 0 where
  pub shown : q.shown ≡ p.shown ++ flat_map (λ text. text) texts
  pub units : p.units ≡ q.units + sum_by (cost p.rate) texts
  pub rate : q.rate ≡ p.rate

-- All texts were shown, and n is how many there are.
abbrev pub ShowsAll : PanelState → List (List ℕ) → ℕ → PanelState → Type 0
ShowsAll p texts n q = (n ≡ length texts) × Shown p texts q

-- The first n of the texts were shown, and the next one found no room.
abbrev pub ShowsFirst : PanelState → List (List ℕ) → ℕ → PanelState → Type 0
ShowsFirst p texts n q = (n < length texts) × Shown p (take n texts) q × (Room q (slice_index_or texts n []) → ⊥)

-- The captions of a readable text are shown, all or those for which there is room; a text that is refused shows nothing.
abbrev pub ProofSheet : List ℕ → PanelState → Result ℕ SheetFault → PanelState → Type 0
ProofSheet text p (Ok n) q = Readable text × ShowsAll p (captions_of text) n q
ProofSheet text p (Err (fault.NoRoom n)) q = Readable text × ShowsFirst p (captions_of text) n q
ProofSheet text p (Err (fault.Refused f)) q = Refused text f × (q ≡ p)

-- What a sheet's fault prints as.
abbrev pub sheet_fault_text : SheetFault → List ℕ
sheet_fault_text (fault.Refused f) = codes "refused " ++ fault_text f
sheet_fault_text (fault.NoRoom n) = codes "room " ++ decimal n
