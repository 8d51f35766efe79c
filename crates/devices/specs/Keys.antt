-- What taking a key does to the bytes that wait. Assumes nothing.
use Rattle.std.specs.Prelude.{◌≡◌, ℕ, ◌^◌, ◌<◌, List, [], ◌∷◌, length, replicate, Some, None, Option}
use Rattle.std.proofs.lemmas.List.{length-replicate}

-- `Takes before r after`: where r is a byte, it was the first that waited, and the others wait after it;
-- where r is none, none waited, and that has not changed.
abbrev pub Takes : List ℕ → Option ℕ → List ℕ → Type 0
Takes before None after = (before ≡ []) × (after ≡ before)
Takes before (Some b) after = before ≡ b ∷ after

pub presses_countable : (n key : ℕ) → n < 2 ^ 64 → length (replicate n key) < 2 ^ 64
presses_countable n key h = rw length-replicate h
