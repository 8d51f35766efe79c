-- The laws of `cost`, which is opened here and nowhere else. Assumes nothing.
use Rattle.std.proofs.Common.{◌≡◌, ℕ, ◌+◌, ◌*◌, ◌<◌, List, [], ◌∷◌, length, Ok, Err, Result, refl, ap, ◌∙◌, arith, length-append}
use Rattle.devices.specs.Costs.{cost}
use Rattle.devices.specs.Hex.{hex, line}
use Rattle.devices.specs.Laws.{CostLaws}
use Rattle.devices.specs.Panels.{PanelState, Shows}
use Rattle.devices.specs.declared.panel.NoRoom.{NoRoom}
use Rattle.devices.specs.States.{roll_rate, frames_rate}
use Rattle.devices.proofs.Decoding.{length-hex}
use Rattle.devices.specs.declared.rate.Rate.{Rate}

pub cost_empty : (rate : Rate) → cost rate [] ≡ 0
unfolding cost
cost_empty rate = refl

pub cost_by_length : (rate : Rate) (s t : List ℕ) → length s ≡ length t → cost rate s ≡ cost rate t
unfolding cost
cost_by_length rate [] [] e = refl
cost_by_length rate [] (b ∷ t) e = absurd (omega arith)
cost_by_length rate (a ∷ s) [] e = absurd (omega arith)
cost_by_length rate (a ∷ s) (b ∷ t) e = ap (λ n. rate.byte * n + rate.text) e

pub cost_some : (rate : Rate) (t : List ℕ) → 0 < length t → cost rate t ≡ rate.byte * length t + rate.text
unfolding cost
cost_some rate [] h = absurd (omega arith)
cost_some rate (b ∷ t) h = refl

-- on a roll, and on frames, a text costs the bytes that are written for it
pub roll_cost : (t : List ℕ) → cost roll_rate t ≡ length t
unfolding cost
roll_cost [] = refl
roll_cost (b ∷ t) = omega arith

pub frames_cost : (t : List ℕ) → cost frames_rate t ≡ length (line t)
unfolding cost
frames_cost [] = refl
frames_cost (b ∷ t) = omega (arith, length-hex (b ∷ t), length-append (hex (b ∷ t)) (10 ∷ []))

-- what is computed as the cost of a text at these rates
pub roll_price : (rate : Rate) (t : List ℕ) (n : ℕ) → rate ≡ roll_rate → n ≡ cost rate t → n ≡ length t
roll_price rate t n same e = e ∙ ap (λ r. cost r t) same ∙ roll_cost t

pub frames_price : (rate : Rate) (t : List ℕ) (n : ℕ) → rate ≡ frames_rate → n ≡ cost rate t → n ≡ length (line t)
frames_price rate t n same e = e ∙ ap (λ r. cost r t) same ∙ frames_cost t

kept : (p q : PanelState) (text : List ℕ) (r : Result (Unit {0}) NoRoom) → Shows p text r q → q.rate ≡ p.rate
kept p q text (Ok _) h = ap (λ s. s.rate) h.1
kept p q text (Err _) h = ap (λ s. s.rate) h.1

pub cost_laws : CostLaws
cost_laws = record { empty = cost_empty; by_length = cost_by_length; kept = kept }
