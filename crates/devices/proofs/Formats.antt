-- A line more on a page of lines of digits. Assumes nothing.
use Rattle.std.proofs.Common.{ℕ, ◌<◌, List, [], ◌∷◌, sym, ap, ◌∙◌, append-nil}
use Rattle.std.specs.List.{flat_map, AllByRecursion}
use Rattle.std.proofs.lemmas.List.{flat_map_more}
use Rattle.devices.specs.Formats.{Adds}
use Rattle.devices.specs.Hex.{joined_texts, line, page_again, texts_of}
use Rattle.devices.proofs.Decoding.{texts_more, page_more}

pub adds_line : (t : List ℕ) → AllByRecursion (λ b. b < 256) t → Adds joined_texts page_again (line t) t
adds_line [] bytes w whole =
    (ap joined_texts (append-nil w) ∙ sym (append-nil (joined_texts w)), rw (append-nil w) whole)
adds_line (b ∷ t) bytes w whole = (
  ap (flat_map (λ text. text)) (texts_more w whole (b ∷ t) bytes) ∙ sym (flat_map_more (λ text. text) [] (texts_of w) (b ∷ t)),
  page_more w whole (b ∷ t) bytes,
)
