-- A lent buffer, and a line appended to what is written in it. Assumes nothing.
use Rattle.std.specs.Borrow.{MutBor}
use Rattle.std.specs.Prelude.{◌≡◌, ℕ, ◌+◌, min, List, ◌++◌, length, take, drop, Ok, Err, Result}
use Rattle.devices.specs.declared.panel.NoRoom.{NoRoom}

-- How many bytes of a buffer a panel uses: all of them, but at most 1,048,576.
abbrev pub capacity : List ℕ → ℕ
capacity buffer = min (length buffer) 1048576

-- The buffer with the line after its first n bytes, and nothing after the line changed.
abbrev pub appended : List ℕ → ℕ → List ℕ → List ℕ
appended buffer n line = take n buffer ++ line ++ drop (n + length line) buffer

-- `Grows before n line after m`: of the buffer before, n bytes were written; now the line follows them, and m bytes
-- of the same buffer are written.
pub record Grows (before : MutBor (List ℕ)) (n : ℕ) (line : List ℕ) (after : MutBor (List ℕ)) (m : ℕ) : Type 0 where
  pub buffer : after.now ≡ appended before.now n line
  pub used : m ≡ n + length line
  pub lender : after.ghost_name ≡ before.ghost_name

-- `Appends before n line r after m`: where r is a success the buffer grows by the line; where it is a refusal,
-- no byte of it and no number has changed.
abbrev pub Appends : MutBor (List ℕ) → ℕ → List ℕ → Result (Unit {0}) NoRoom → MutBor (List ℕ) → ℕ → Type 0
Appends before n line (Ok _) after m = Grows before n line after m
Appends before n line (Err _) after m = (after ≡ before) × (m ≡ n)
