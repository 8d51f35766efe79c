-- What a format does with a text. Assumes nothing.
use Rattle.std.specs.Prelude.{◌≡◌, ℕ, ◌<◌, ◌≤◌, List, ◌++◌, length, drop, Ok, Err, Result}
use Rattle.devices.specs.declared.panel.NoRoom.{NoRoom}

-- `Writes before line r after`: where r is a number, the line has that many bytes and stands at the front of the space,
-- with nothing after it changed; where r is a refusal, the line is longer than the space, which has not changed.
abbrev pub Writes : List ℕ → List ℕ → Result ℕ NoRoom → List ℕ → Type 0
Writes before line (Ok n) after = (n ≡ length line) × (n ≤ length before) × (after ≡ line ++ drop n before)
Writes before line (Err _) after = (length before < length line) × (after ≡ before)

-- How one text more is read back: `shown` gives the bytes that a written part shows, and `rewritten` what the part is once it
-- is read back into texts and these are written again. `Adds shown rewritten line text`: after any part that comes back as it
-- was, the line shows the text after the part's own bytes, and part and line come back as they were.
abbrev pub Adds : (List ℕ → List ℕ) → (List ℕ → List ℕ) → List ℕ → List ℕ → Type 0
Adds shown rewritten line text = (w : List ℕ) → rewritten w ≡ w → (shown (w ++ line) ≡ shown w ++ text) × (rewritten (w ++ line) ≡ w ++ line)
