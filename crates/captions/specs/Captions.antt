-- The captions of a text: its quoted texts outside comments. Assumes nothing.
use Rattle.std.specs.Prelude.{ℕ, List, [], ◌∷◌, Some, None, Option}
use Rattle.std.specs.List.{flat_map}
use Rattle.reader.specs.Lines.{lines}
use Rattle.reader.specs.Words.{Sort, Piece, directive, label, name, number, quoted, other, words}

-- The part of a word, where it is a quoted text.
abbrev pub quote_in : Sort → List ℕ → List (List ℕ)
quote_in directive part = []
quote_in label part = []
quote_in name part = []
quote_in number part = []
quote_in quoted part = part ∷ []
quote_in other part = []

-- The quoted texts among words.
abbrev pub quotes : List Piece → List (List ℕ)
quotes ws = flat_map (λ w. quote_in w.sort w.part) ws

-- Those of a line that is read.
abbrev pub quotes_read : Option (List Piece) → List (List ℕ)
quotes_read (Some ws) = quotes ws
quotes_read None = []

abbrev pub line_captions : List ℕ → List (List ℕ)
line_captions line = quotes_read (words line)

-- Those of a text, line by line.
abbrev pub captions_of : List ℕ → List (List ℕ)
captions_of text = flat_map line_captions (lines text)
