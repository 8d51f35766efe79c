-- The first line that is refused. Assumes nothing.
use Rattle.std.proofs.Common.{◌≡◌, ℕ, ◌+◌, ◌-◌, ◌<◌, List, [], length, get_or, None, sym, ap, ◌∙◌, subst, arith}
use Rattle.reader.specs.Arises.{TooLong, Unreadable, Refused, unreadable, Readable}
use Rattle.reader.specs.Faults.{fault_at}
use Rattle.reader.specs.Lines.{lines, IsLine}
use Rattle.reader.specs.Words.{words}
use Rattle.reader.specs.declared.line.Line.{Line}
use Rattle.reader.specs.declared.refusal.Refusal.TheVariants.{UnreadableWord}

-- the first n lines are readable
abbrev pub Clear : List ℕ → ℕ → Type 0
Clear text n = (k : ℕ) → k < n → words (get_or (lines text) k []) ≡ None → ⊥

module _ (text : List ℕ) (short : TooLong text → ⊥) where
  pub refused_here : (n : ℕ) (line : Line) → IsLine text n line → Clear text n → words line.bytes.now ≡ None → Refused text (fault_at UnreadableWord line.number)
  refused_here n line is clear none =
      let here : words (get_or (lines text) (n + 1 - 1) []) ≡ None = ap (λ k. words (get_or (lines text) k [])) (omega arith) ∙ ap words (sym is.bytes) ∙ none in
      let before : (m : ℕ) → m < n + 1 → Unreadable text m → ⊥ = λ m lt u. clear (m - 1) (omega (arith, u.0)) u.2 in
      let first = unreadable (n + 1) short (omega arith, omega (arith, is.within), here) before in
      subst (λ k. Refused text (fault_at UnreadableWord k)) (sym is.number) first

-- a readable text has readable lines
pub readable_line : (text : List ℕ) → Readable text → (n : ℕ) → n < length (lines text) → words (get_or (lines text) n []) ≡ None → ⊥
readable_line text r n h none = r.clear (n + 1) (omega arith, omega arith, ap (λ k. words (get_or (lines text) k [])) (omega arith) ∙ none)
