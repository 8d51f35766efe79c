-- The lines of a text. Assumes nothing.
use Rattle.std.specs.Prelude.{◌≡◌, ℕ, ◌+◌, ◌<◌, ◌≤◌, cond, List, [], ◌∷◌, length, take, drop, Some, None, sum_by, Option, ◌==◌, slice_index_or}
use Rattle.reader.specs.declared.line.Line.{Line}

-- The byte in front of the first line; where there is no line, it is one.
abbrev pub onto_first : ℕ → List (List ℕ) → List (List ℕ)
onto_first b [] = (b ∷ []) ∷ []
onto_first b (line ∷ rest) = (b ∷ line) ∷ rest

-- A byte 10 ends a line, and so does the text's end where bytes stand before it. An empty text has no line.
abbrev pub lines : List ℕ → List (List ℕ)
lines [] = []
lines (b ∷ bs) = cond (b == 10) ([] ∷ lines bs) (onto_first b (lines bs))

-- Where the line after the first n begins: each of these takes its bytes and the byte 10 that ends it.
abbrev pub line_start : List ℕ → ℕ → ℕ
line_start text n = sum_by (λ line. length line + 1) (take n (lines text))

-- `IsLine text n line`: the line after the first n of the text, with its number and its place.
pub record IsLine (text : List ℕ) (n : ℕ) (line : Line) : Type 0 where
  pub within : n < length (lines text)
  pub number : line.number ≡ n + 1
  pub place : line.place ≡ line_start text n
  pub bytes : line.bytes.now ≡ slice_index_or (lines text) n []
  -- it ends within the text, and its bytes are that part of the text
  pub inside : line.place + length line.bytes.now ≤ length text
  pub part : take (length line.bytes.now) (drop line.place text) ≡ line.bytes.now

-- `GivesLine text n r m`: after n lines of the text were given, r is the next one, and m lines were given then;
-- or r is none, and all lines were given.
abbrev pub GivesLine : List ℕ → ℕ → Option Line → ℕ → Type 0
GivesLine text n None m = (n ≡ length (lines text)) × (m ≡ n)
GivesLine text n (Some line) m = IsLine text n line × (m ≡ n + 1)
