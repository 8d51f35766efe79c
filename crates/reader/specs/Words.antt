-- The words of a line. Assumes nothing.
use Rattle.std.specs.Prelude.{ℕ, zero, suc, ◌+◌, ◌-◌, Bool, cond, ◌&&◌, List, [], ◌∷◌, length, take, drop, Some, None, Option, ◌==◌, nat_le, nat_lt, slice_index}
use Rattle.std.specs.Char.{is_ascii_alphabetic, is_ascii_alphanumeric, is_ascii_digit}
use Rattle.std.specs.List.{list_all, prefix_len}
use Rattle.reader.specs.Bytes.{is_allowed, is_blank, is_dark, is_quotable}

pub data Sort : Type 0 where
  directive : Sort
  label : Sort
  name : Sort
  number : Sort
  quoted : Sort
  other : Sort

-- A word: its sort, where its part of the line begins, and that part. It is the whole word,
-- but a label's part leaves out the `:`, and a quoted text's part the two quotes.
pub record Piece : Type 0 where
  pub sort : Sort
  pub place : ℕ
  pub part : List ℕ

abbrev pub piece : Sort → ℕ → List ℕ → Piece
piece sort place part = record { sort = sort; place = place; part = part }

-- A `.` and then one or more letters.
abbrev pub is_directive : List ℕ → Bool
is_directive w = nat_lt 1 (length w) && (slice_index w 0 == 46 && list_all is_ascii_alphabetic (drop 1 w))

-- 1 to 32 letters and digits, and then a `:`.
abbrev pub is_label : List ℕ → Bool
is_label w = (nat_lt 1 (length w) && nat_le (length w) 33) && (list_all is_ascii_alphanumeric (take (length w - 1) w) && slice_index w (length w - 1) == 58)

-- 1 to 32 letters and digits, the first a letter.
abbrev pub is_name : List ℕ → Bool
is_name w = (nat_lt 0 (length w) && nat_le (length w) 32) && (is_ascii_alphabetic (slice_index w 0) && list_all is_ascii_alphanumeric w)

-- An optional minus, and then one or more digits.
abbrev pub minus : List ℕ → ℕ
minus w = cond (slice_index w 0 == 45) 1 0

abbrev pub is_number : List ℕ → Bool
is_number w = nat_lt (minus w) (length w) && list_all is_ascii_digit (drop (minus w) w)

-- A word that is no quoted text, by its looks.
abbrev pub plain : ℕ → List ℕ → Piece
plain p w =
    cond (is_directive w) (piece directive p w)
    (cond (is_label w) (piece label p (take (length w - 1) w))
    (cond (is_name w) (piece name p w) (cond (is_number w) (piece number p w) (piece other p w))))

abbrev pub with_piece : Piece → Option (List Piece) → Option (List Piece)
with_piece w None = None
with_piece w (Some ws) = Some (w ∷ ws)

-- The words of the bytes s, which begin at the place p of their line; the first k of them belong to a word before.
-- None where a quote among them does not close, or holds a tab.
--   A blank is no part of a word. A `;` that begins a word begins a comment, to the line's end. A word that begins
--   with a quote runs to the next quote and ends there. Any other word runs to the next blank.
abbrev pub read : ℕ → ℕ → List ℕ → Option (List Piece)
read p k [] = Some []
read p (suc k) (b ∷ s) = read (p + 1) k s
read p zero (b ∷ s) =
    cond (is_blank b) (read (p + 1) 0 s)
    (cond (b == 59) (Some [])
    (cond (b == 34)
    (cond (slice_index s (prefix_len is_quotable s) == 34) (with_piece (piece quoted (p + 1) (take (prefix_len is_quotable s) s)) (read (p + 1) (prefix_len is_quotable s + 1) s)) None)
    (with_piece (plain p (b ∷ take (prefix_len is_dark s) s)) (read (p + 1) (prefix_len is_dark s) s))))

-- The words of what is left of a line from a place on.
abbrev pub words_from : List ℕ → ℕ → Option (List Piece)
words_from line at = read at 0 (drop at line)

-- The words of a line; none where it is refused: where it has a byte that no line may have, or a quote is at fault.
abbrev pub words : List ℕ → Option (List Piece)
words line = cond (list_all is_allowed line) (words_from line 0) None
