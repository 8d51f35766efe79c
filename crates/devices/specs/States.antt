-- What the panels over a buffer mean. Assumes nothing.
use Rattle.std.specs.Prelude.{ℕ, ◌-◌, List, [], take}
use Rattle.std.proofs.Common.{arith, lit≤}
use Rattle.devices.specs.Buffers.{capacity}
use Rattle.devices.specs.Hex.{joined_texts}
use Rattle.devices.specs.Panels.{Bounded, PanelState}
use Rattle.devices.specs.declared.rate.Rate.{Rate}

-- A panel at its start: nothing shown, and as many units as its buffer has bytes to use.
abbrev pub starting : Rate → List ℕ → PanelState
starting rate buffer = record { shown = []; units = capacity buffer; rate = rate }

-- A panel with this rate, of whose buffer n bytes are written, where `shown` says what bytes a written part shows.
abbrev pub buffer_state : (List ℕ → List ℕ) → Rate → List ℕ → ℕ → PanelState
buffer_state shown rate buffer n = record { shown = shown (take n buffer); units = capacity buffer - n; rate = rate }

-- The numbers of a panel over a buffer are within their bounds, whatever is written, where they are at its start.
pub buffer_bounded : (shown : List ℕ → List ℕ) (rate : Rate) → Bounded (starting rate []) → (buffer : List ℕ) (n : ℕ) → Bounded (buffer_state shown rate buffer n)
buffer_bounded shown rate b buffer n = record { units_most = omega arith; byte_least = b.byte_least; byte_most = b.byte_most; text_most = b.text_most }

-- The rates of the two formats.
abbrev pub roll_rate : Rate
roll_rate = record { byte = 1; text = 0 }

abbrev pub frames_rate : Rate
frames_rate = record { byte = 2; text = 1 }

-- What panels in the two formats mean, and that their numbers are within their bounds: for every buffer, whatever is written.
abbrev pub roll_state : List ℕ → ℕ → PanelState
roll_state buffer n = buffer_state (λ w. w) roll_rate buffer n

abbrev pub frames_state : List ℕ → ℕ → PanelState
frames_state buffer n = buffer_state joined_texts frames_rate buffer n

pub roll_bounded : (buffer : List ℕ) (n : ℕ) → Bounded (roll_state buffer n)
roll_bounded buffer n = buffer_bounded (λ w. w) roll_rate (record { units_most = omega arith; byte_least = lit≤ tt; byte_most = lit≤ tt; text_most = lit≤ tt }) buffer n

pub frames_bounded : (buffer : List ℕ) (n : ℕ) → Bounded (frames_state buffer n)
frames_bounded buffer n = buffer_bounded joined_texts frames_rate (record { units_most = omega arith; byte_least = lit≤ tt; byte_most = lit≤ tt; text_most = lit≤ tt }) buffer n
