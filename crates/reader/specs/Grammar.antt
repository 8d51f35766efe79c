-- The grammar of a line's words: the same words again, by rules that say which bytes a word may be. Assumes nothing.
use Rattle.std.specs.Prelude.{◌≡◌, ℕ, ◌+◌, true, false, List, [], ◌∷◌, ◌++◌, length, Some, ◌≢◌}
use Rattle.std.specs.List.{list_all}
use Rattle.reader.specs.Bytes.{is_blank, is_dark, is_quotable}
use Rattle.reader.specs.Words.{Piece, piece, quoted, plain, words_from}

-- What follows a word that is no quoted text: nothing, or a blank.
abbrev pub Parted : List ℕ → Type 0
Parted [] = Unit {0}
Parted (b ∷ s) = is_blank b ≡ true

-- `Reads p s ws`: the bytes s, which begin at the place p of their line, are read as the words ws.
pub data Reads : ℕ → List ℕ → List Piece → Type 0 where
  -- nothing is left
  ends : {p : ℕ} → Reads p [] []
  -- a `;` where a word could begin, and whatever follows it
  comment : {p : ℕ} {s : List ℕ} → Reads p (59 ∷ s) []
  blank : {p b : ℕ} {s : List ℕ} {ws : List Piece} → is_blank b ≡ true → Reads (p + 1) s ws → Reads p (b ∷ s) ws
  -- a quote, bytes that are neither quote nor tab, and a quote
  quotes : {p : ℕ} {t s : List ℕ} {ws : List Piece} → list_all is_quotable t ≡ true → Reads (p + (length t + 2)) s ws → Reads p (34 ∷ (t ++ 34 ∷ s)) (piece quoted (p + 1) t ∷ ws)
  -- a byte that is no blank, `;` or quote, and then bytes that are no blanks, up to a blank or the end
  word : {p b : ℕ} (w s : List ℕ) {ws : List Piece} → is_blank b ≡ false → (b ≢ 59) → (b ≢ 34) → list_all is_dark w ≡ true → Parted s → Reads (p + (length w + 1)) s ws → Reads p (b ∷ (w ++ s)) (plain p (b ∷ w) ∷ ws)

-- A line has a reading exactly when a reading of it can be computed, and that is the one.
abbrev pub Grammatical : Type 0
Grammatical = (line : List ℕ) (ws : List Piece) → (words_from line 0 ≡ Some ws → Reads 0 line ws) × (Reads 0 line ws → words_from line 0 ≡ Some ws)
