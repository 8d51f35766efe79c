-- The first line of a text, and what is left of it. Assumes nothing.
use Rattle.std.proofs.Common.{◌≡◌, ℕ, suc, ◌+◌, ◌-◌, ◌<◌, ◌≤◌, eqb, List, [], ◌∷◌, length, get_or, take, drop, sum_by, sym, refl, ap, ◌∙◌, ⊎_elim, add-zero, arith, length-drop}
use Rattle.std.specs.List.{prefix_len}
use Rattle.std.proofs.lemmas.List.{drop_all, drop-drop, length-take-le, get_or-drop}
use Rattle.std.proofs.lemmas.List.Sums.{sum_by-cons, sum_by_more}
use Rattle.std.proofs.lemmas.Bool.{cases_Bool}
use Rattle.reader.specs.Bytes.{is_inline}
use Rattle.reader.specs.Lines.{lines, line_start, onto_first}
use Rattle.reader.specs.declared.lines.Lines.{Lines}

-- how many bytes the first line has
abbrev pub first_len : List ℕ → ℕ
first_len s = prefix_len is_inline s

-- a byte in front of the first line
grown : (b n : ℕ) (s : List ℕ) → (b ∷ take n s) ∷ lines (drop (n + 1) s) ≡ take (1 + n) (b ∷ s) ∷ lines (drop (1 + n + 1) (b ∷ s))
grown b n s =
    let one : suc n ≡ 1 + n = omega arith in
    let two : suc (n + 1) ≡ 1 + n + 1 = omega arith in
    λ i. take (one i) (b ∷ s) ∷ lines (drop (two i) (b ∷ s))

pub lines_first : (s : List ℕ) → 0 < length s → lines s ≡ take (first_len s) s ∷ lines (drop (first_len s + 1) s)
lines_first [] h = absurd (omega arith)
lines_first (b ∷ []) h = ⊎_elim (λ ends. rw ends refl) (λ more. rw more refl) (cases_Bool (eqb b 10))
lines_first (b ∷ c ∷ s) h =
    ⊎_elim
    (λ ends. rw ends refl)
    (λ more. rw more (ap (onto_first b) (lines_first (c ∷ s) (omega arith)) ∙ grown b (first_len (c ∷ s)) (c ∷ s)))
    (cases_Bool (eqb b 10))

-- each line takes a byte at least
pub lines_take : (ls : List (List ℕ)) → length ls ≤ sum_by (λ l. length l + 1) ls
lines_take [] = omega arith
lines_take (l ∷ ls) = omega (arith, lines_take ls, sum_by-cons (λ l. length l + 1) l ls)

-- the next line, by what holds of each reader of lines
module _ (s : Lines) where
  pub all_given : length s.text.now ≤ s.at → s.given ≡ length (lines s.text.now)
  all_given past =
      let none : length (drop s.given (lines s.text.now)) ≡ 0 = ap length (s.left ∙ ap lines (drop_all s.at s.text.now past)) in
      let given = s.counted in
      omega (arith, length-drop s.given (lines s.text.now))

  pub few_given : s.given ≤ s.at
  few_given =
      let placed = s.placed in
      omega (arith, lines_take (take s.given (lines s.text.now)), length-take-le s.given (lines s.text.now) s.counted)

  module _ (more : s.at < length s.text.now) (end : ℕ) (ends : end ≡ s.at + first_len (drop s.at s.text.now)) where
    next_len : end - s.at ≡ first_len (drop s.at s.text.now)
    next_len = omega arith

    parted : drop s.given (lines s.text.now) ≡ take (end - s.at) (drop s.at s.text.now) ∷ lines (drop (end + 1) s.text.now)
    parted =
        let rest = drop s.at s.text.now in
        let some : 0 < length rest = omega (arith, length-drop s.at s.text.now) in
        let past : drop (first_len rest + 1) rest ≡ drop (end + 1) s.text.now = drop-drop (first_len rest + 1) s.at s.text.now ∙ ap (λ k. drop k s.text.now) (omega arith) in
        s.left ∙ lines_first rest some ∙ (λ i. take (sym next_len i) rest ∷ lines (past i))

    pub next_within : s.given < length (lines s.text.now)
    next_within = omega (arith, length-drop s.given (lines s.text.now), ap length parted)

    pub next_bytes : take (end - s.at) (drop s.at s.text.now) ≡ get_or (lines s.text.now) s.given []
    next_bytes = sym (ap (λ k. get_or (lines s.text.now) k []) (sym (add-zero s.given)) ∙ sym (get_or-drop s.given (lines s.text.now) 0 []) ∙ ap (λ l. get_or l 0 []) parted)

    pub next_left : drop (s.given + 1) (lines s.text.now) ≡ lines (drop (end + 1) s.text.now)
    next_left = sym (drop-drop 1 s.given (lines s.text.now)) ∙ ap (drop 1) parted

    pub next_placed : end ≤ length s.text.now → end + 1 ≡ line_start s.text.now (s.given + 1)
    next_placed within =
        let placed = s.placed in
        let here : length (get_or (lines s.text.now) s.given []) ≡ end - s.at = ap length (sym next_bytes) ∙ length-take-le (end - s.at) (drop s.at s.text.now) (omega (arith, length-drop s.at s.text.now)) in
        omega (arith, sum_by_more (λ l. length l + 1) (lines s.text.now) s.given [] next_within)
