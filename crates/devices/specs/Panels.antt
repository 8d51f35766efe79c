-- What a panel means, and what it does with a text. Assumes nothing.
use Rattle.std.specs.Prelude.{◌≡◌, ℕ, ◌-◌, ◌≤◌, List, ◌++◌, Ok, Err, Result}
use Rattle.devices.specs.Costs.{cost}
use Rattle.devices.specs.declared.panel.NoRoom.{NoRoom}
use Rattle.devices.specs.declared.rate.Rate.{Rate}

-- What a panel means.
pub record PanelState : Type 0 where
  -- the bytes of all texts shown, in order
  pub shown : List ℕ
  -- the units left
  pub units : ℕ
  -- what a byte and a text cost
  pub rate : Rate

-- The bounds that hold of every panel: at most 1,048,576 units left, P from 1 to 4, Q from 0 to 16.
pub record Bounded (p : PanelState) : Type 0 where
  pub units_most : p.units ≤ 1048576
  pub byte_least : 1 ≤ p.rate.byte
  pub byte_most : p.rate.byte ≤ 4
  pub text_most : p.rate.text ≤ 16

-- There is room for a text that costs no more than the units left.
abbrev pub Room : PanelState → List ℕ → Type 0
Room p text = cost p.rate text ≤ p.units

-- The panel with the text shown.
abbrev pub shown_on : PanelState → List ℕ → PanelState
shown_on p text = record { shown = p.shown ++ text; units = p.units - cost p.rate text; rate = p.rate }

-- `Shows p text r q`: a panel p that is to show the text answers r and is q then.
abbrev pub Shows : PanelState → List ℕ → Result (Unit {0}) NoRoom → PanelState → Type 0
Shows p text (Ok _) q = Room p text × (q ≡ shown_on p text)
Shows p text (Err _) q = (Room p text → ⊥) × (q ≡ p)
