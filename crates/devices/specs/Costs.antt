-- What a text costs. Assumes nothing.
use Rattle.std.specs.Prelude.{ℕ, ◌+◌, ◌*◌, List, [], ◌∷◌, length}
use Rattle.devices.specs.declared.rate.Rate.{Rate}

-- A text of n bytes costs P × n + Q, an empty one nothing.
unfoldable pub cost : Rate → List ℕ → ℕ
cost rate [] = 0
cost rate (b ∷ bs) = rate.byte * length (b ∷ bs) + rate.text
