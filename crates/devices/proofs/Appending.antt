-- A line more at the end of what is written in a buffer. Assumes nothing.
use Rattle.std.proofs.Common.{◌≡◌, ℕ, ◌+◌, ◌<◌, ◌≤◌, List, [], ◌∷◌, ◌++◌, length, take, drop, set, sym, ap, ◌∙◌, append_assoc, arith, length-append, length-drop, length-take-le, take-append-drop}
use Rattle.std.proofs.lemmas.List.{take_at, set_at, drop_more, drop-append-le, drop-drop}
use Rattle.devices.specs.Buffers.{appended}

module _ (old : List ℕ) (n : ℕ) (line : List ℕ) where
  -- the k bytes after the first n, with the line at their front, put back there
  pub part-appended : (k : ℕ) → n + k ≤ length old → length line ≤ k → take n old ++ ((line ++ drop (length line) (take k (drop n old))) ++ drop k (drop n old)) ≡ appended old n line
  part-appended k within fits =
      let rest = drop n old in
      let long : length (take k rest) ≡ k = length-take-le k rest (omega (arith, length-drop n old)) in
      let kept : drop (length line) (take k rest) ++ drop k rest ≡ drop (n + length line) old =
      sym (drop-append-le (length line) (take k rest) (drop k rest) (omega arith)) ∙ ap (drop (length line)) (take-append-drop k rest) ∙ drop-drop (length line) n old in
      ap (λ l. take n old ++ l) (append_assoc line _ _ ∙ ap (λ l. line ++ l) kept) ∙ sym (append_assoc (take n old) line _)

  front : n ≤ length old → length (take n old ++ line) ≡ n + length line
  front h = length-append (take n old) line ∙ ap (λ k. k + length line) (length-take-le n old h)

  -- what is written then
  pub take-appended : n ≤ length old → take (n + length line) (appended old n line) ≡ take n old ++ line
  take-appended h = take_at (take n old ++ line) (drop (n + length line) old) (n + length line) (front h)

  pub length-appended : n + length line ≤ length old → length (appended old n line) ≡ length old
  length-appended h =
      let f = front (omega arith) in
      simp (length-append (take n old ++ line), length-drop) (omega (arith, f))

-- a space whose first k bytes are written, with one byte more
pub written_at : (old front : List ℕ) (k b : ℕ) → length front ≡ k → k < length old → set (front ++ drop k old) k b ≡ (front ++ b ∷ []) ++ drop (k + 1) old
written_at old front k b long h =
    ap (λ l. set (front ++ l) k b) (drop_more old k 0 h) ∙ set_at front _ _ b k long ∙ sym (append_assoc front (b ∷ []) _)
