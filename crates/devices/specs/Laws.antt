-- The laws of costs: what code above the panels knows of `cost`, and all it needs. Assumes nothing.
use Rattle.std.specs.Prelude.{◌≡◌, ℕ, List, [], length, Result}
use Rattle.devices.specs.Costs.{cost}
use Rattle.devices.specs.Panels.{PanelState, Shows}
use Rattle.devices.specs.declared.panel.NoRoom.{NoRoom}
use Rattle.devices.specs.declared.rate.Rate.{Rate}

pub record CostLaws : Type 0 where
  -- an empty text costs nothing
  pub empty : (rate : Rate) → cost rate [] ≡ 0
  -- the cost depends on the length only
  pub by_length : (rate : Rate) (s t : List ℕ) → length s ≡ length t → cost rate s ≡ cost rate t
  -- P and Q never change, whatever is shown or refused
  pub kept : (p q : PanelState) (text : List ℕ) (r : Result (Unit {0}) NoRoom) → Shows p text r q → q.rate ≡ p.rate
