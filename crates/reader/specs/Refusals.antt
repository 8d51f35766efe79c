-- The number and the layer of each refusal. Assumes nothing.
use Rattle.std.specs.Prelude.{ℕ}
use Rattle.reader.specs.declared.refusal.Layer.{Layer}
use Rattle.reader.specs.declared.refusal.Layer.TheVariants.{Entry, Word, Line, Table, Link, Check, Show}
use Rattle.reader.specs.declared.refusal.Refusal.{Refusal}
use Rattle.reader.specs.declared.refusal.Refusal.TheVariants.{TextTooLong, TooFewRows, UnreadableWord, NoSuchForm, OutOfRange, AlreadyDefined, TableFull, LabelMarksNothing, UnknownLabel, UnknownMember, EndMissing, MainMissing, DoesNotPass, NotRunning}

abbrev pub number_of : Refusal → ℕ
number_of TextTooLong = 1
number_of TooFewRows = 2
number_of UnreadableWord = 3
number_of NoSuchForm = 4
number_of OutOfRange = 5
number_of AlreadyDefined = 6
number_of TableFull = 7
number_of LabelMarksNothing = 8
number_of UnknownLabel = 9
number_of UnknownMember = 10
number_of EndMissing = 11
number_of MainMissing = 12
number_of DoesNotPass = 13
number_of NotRunning = 14

abbrev pub layer_of : Refusal → Layer
layer_of TextTooLong = Entry
layer_of TooFewRows = Entry
layer_of UnreadableWord = Word
layer_of NoSuchForm = Line
layer_of OutOfRange = Line
layer_of AlreadyDefined = Table
layer_of TableFull = Table
layer_of LabelMarksNothing = Link
layer_of UnknownLabel = Link
layer_of UnknownMember = Link
layer_of EndMissing = Link
layer_of MainMissing = Link
layer_of DoesNotPass = Check
layer_of NotRunning = Show

-- In the order in which a scene meets them.
abbrev pub layer_number : Layer → ℕ
layer_number Entry = 1
layer_number Word = 2
layer_number Line = 3
layer_number Table = 4
layer_number Link = 5
layer_number Check = 6
layer_number Show = 7
