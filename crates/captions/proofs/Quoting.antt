-- The quoted texts among words. Assumes nothing.
use Rattle.std.proofs.Common.{◌≡◌, ℕ, List, [], ◌++◌, get_or, Some, None, Option, sym, refl, ap, ◌∙◌}
use Rattle.std.proofs.lemmas.Grind.{flat_map-append}
use Rattle.captions.specs.Captions.{quote_in, quotes, quotes_read, line_captions}
use Rattle.reader.proofs.Refusing.{readable_line}
use Rattle.reader.specs.Arises.{Readable}
use Rattle.reader.specs.Lines.{lines, IsLine}
use Rattle.reader.specs.declared.line.Line.{Line}
use Rattle.reader.specs.Words.{Piece, words}

pub quotes-append : (xs ys : List Piece) → quotes (xs ++ ys) ≡ quotes xs ++ quotes ys
quotes-append = flat_map-append (λ w. quote_in w.sort w.part)

read_some : (o : Option (List Piece)) → (o ≡ None → ⊥) → (ws : List Piece) × (o ≡ Some ws)
read_some None h = absurd (h refl)
read_some (Some ws) h = (ws, refl)

-- a line of a readable text has words, and the captions of the line are the quoted texts among them
pub line_words : (text : List ℕ) (n : ℕ) (line : Line) → Readable text → IsLine text n line → (ws : List Piece) × (words line.bytes.now ≡ Some ws) × (quotes ws ≡ line_captions (get_or (lines text) n []))
line_words text n line readable is =
    let here = is.bytes in
    let some = read_some (words line.bytes.now) (λ none. readable_line text readable n is.within (ap words (sym here) ∙ none)) in
    (some.0, some.1, sym (ap quotes_read some.1) ∙ ap line_captions here)
