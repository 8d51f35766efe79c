-- When a text is refused, by what stands in it. Assumes nothing.
use Rattle.std.specs.Prelude.{◌≡◌, ℕ, ◌-◌, ◌<◌, ◌≤◌, List, [], length, None, slice_index_or}
use Rattle.reader.specs.Faults.{fault_at}
use Rattle.reader.specs.Lines.{lines}
use Rattle.reader.specs.Words.{words}
use Rattle.reader.specs.declared.fault.Fault.{Fault}
use Rattle.reader.specs.declared.refusal.Refusal.TheVariants.{TextTooLong, UnreadableWord}

-- Refusal 1: the text has more than 32,768 bytes.
abbrev pub TooLong : List ℕ → Type 0
TooLong text = 32768 < length text

-- Refusal 3 arises at line n, counted from 1: the line has a byte that no line may have, or a quote is at fault.
abbrev pub Unreadable : List ℕ → ℕ → Type 0
Unreadable text n = (1 ≤ n) × (n ≤ length (lines text)) × (words (slice_index_or (lines text) (n - 1) []) ≡ None)

-- `Refused text fault`: the text is too long; or it is not, and the fault is that of its first unreadable line.
pub data Refused (text : List ℕ) : Fault → Type 0 where
  too_long : TooLong text → Refused text (fault_at TextTooLong 0)
  unreadable : (n : ℕ) → (TooLong text → ⊥) → Unreadable text n → ((m : ℕ) → m < n → Unreadable text m → ⊥) → Refused text (fault_at UnreadableWord n)

-- `Readable text`: nothing of this arises anywhere.
pub record Readable (text : List ℕ) : Type 0 where
  pub short : TooLong text → ⊥
  pub clear : (n : ℕ) → Unreadable text n → ⊥
