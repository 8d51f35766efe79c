-- The sorts of bytes that a line is read by. Assumes nothing.
use Rattle.std.specs.Prelude.{ℕ, Bool, not, ◌&&◌, ◌||◌, ◌==◌, nat_le}

-- What stands on a line: any byte but 10.
abbrev pub is_inline : ℕ → Bool
is_inline b = not (b == 10)

-- What a line may have: a tab, and 32 to 126.
abbrev pub is_allowed : ℕ → Bool
is_allowed b = b == 9 || (nat_le 32 b && nat_le b 126)

-- What parts words: a tab or a space.
abbrev pub is_blank : ℕ → Bool
is_blank b = b == 9 || b == 32

-- What a word is made of: any byte that is not blank.
abbrev pub is_dark : ℕ → Bool
is_dark b = not (is_blank b)

-- What a quoted text is made of: any byte but a quote and a tab.
abbrev pub is_quotable : ℕ → Bool
is_quotable b = not (b == 9 || b == 34)
