-- What the word reader answers, as words of the line. Assumes nothing.
use Rattle.std.specs.Prelude.{◌≡◌, ℕ, ◌<◌, ◌≤◌, true, false, List, [], length, take, drop, Some, None, Ok, Err, Option, Result}
use Rattle.std.specs.List.{list_all}
use Rattle.std.specs.Option.{option_transpose}
use Rattle.reader.specs.Bytes.{is_allowed}
use Rattle.reader.specs.Words.{Piece, piece, directive, label, name, number, quoted, other, with_piece, words_from}
use Rattle.reader.specs.declared.fault.WordFault.{WordFault}
use Rattle.reader.specs.declared.line.Line.{Line}
use Rattle.reader.specs.declared.word.Word.{Word}
use Rattle.reader.specs.declared.word.Word.TheVariants.{Directive, Label, Name, Number, Quoted, Other}
use Rattle.reader.specs.declared.words.Token.{Token}
use Rattle.reader.specs.declared.words.Words.{Words}

-- A word of the code, at a place.
abbrev pub at_place : ℕ → Word → Piece
at_place p (Directive w) = piece directive p w.now
at_place p (Label w) = piece label p w.now
at_place p (Name w) = piece name p w.now
at_place p (Number w) = piece number p w.now
at_place p (Quoted w) = piece quoted p w.now
at_place p (Other w) = piece other p w.now

-- The bytes that a word borrows.
abbrev pub part_of : Word → List ℕ
part_of w = (at_place 0 w).part

-- What is left of a line, by what the reader answered and what is left then.
abbrev pub answered : Result (Option Token) WordFault → Option (List Piece) → Option (List Piece)
answered (Ok None) rest = Some []
answered (Ok (Some token)) rest = with_piece (at_place token.place token.word) rest
answered (Err fault) rest = None

-- The words of a line are read from its front; or the line has a byte that no line may have.
abbrev pub Opens : Line → Result Words WordFault → Type 0
Opens line (Ok w) = (list_all is_allowed line.bytes.now ≡ true) × ((w.line ≡ line) × (w.at ≡ 0))
Opens line (Err fault) = (list_all is_allowed line.bytes.now ≡ false) × (fault.line ≡ line.number)

-- How far the reader comes with an answer: past the word; or nowhere, and a fault names the line.
abbrev pub Moves : Words → Result (Option Token) WordFault → Words → Type 0
Moves w (Ok None) v = v ≡ w
Moves w (Ok (Some token)) v = (w.at < v.at) × ((v.at ≤ length w.line.bytes.now) × (v.line ≡ w.line))
Moves w (Err fault) v = (v ≡ w) × (fault.line ≡ w.line.number)

-- A word's part is that part of the line.
abbrev pub IsPart : List ℕ → Result (Option Token) WordFault → Type 0
IsPart line (Ok None) = Unit {0}
IsPart line (Ok (Some token)) = take (length (part_of token.word)) (drop token.place line) ≡ part_of token.word
IsPart line (Err fault) = Unit {0}

-- How far the iterator comes with an answer: as far as `Moves` says; or to the line's end, and a fault names the line.
abbrev pub MovesOn : Words → Result (Option Token) WordFault → Words → Type 0
MovesOn w (Ok found) v = Moves w (Ok found) v
MovesOn w (Err fault) v = (v.line ≡ w.line) × ((v.at ≡ length w.line.bytes.now) × (fault.line ≡ w.line.number))

-- What the iterator over a line's words gives: the word or the fault that the word reader answers; none comes after a fault.
pub record GivesWord (w : Words) (found : Option (Result Token WordFault)) (v : Words) : Type 0 where
  pub words : words_from w.line.bytes.now w.at ≡ answered (option_transpose found) (words_from v.line.bytes.now v.at)
  pub part : IsPart w.line.bytes.now (option_transpose found)
  pub moves : MovesOn w (option_transpose found) v
